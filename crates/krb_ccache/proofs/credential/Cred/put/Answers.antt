use Rattle.krb_ccache.proofs.Cited.{refl, sym, ap, subst, ◌∙◌, Puts, cc_name_fits, puts_then, CredParts, left_room, left_next, left_all, cc_principal, principal_parts, middle_text}
use Rattle.krb_ccache.proofs.SpellingLemmas.{four_is, fits_spelled}
use Rattle.krb_ccache.proofs.credential.Cred.put.Goals as goal

pub put_cc_principal-requires-clause-spelled : goal.put_cc_principal-requires-clause-spelled
put_cc_principal-requires-clause-spelled g c = ap (λ (x : CredParts). cc_name_fits x.client) c.self.view_is ∙ fits_spelled c.args.self.now.client c.requires.fits.client

pub put_cc_principal-requires-clause-room : goal.put_cc_principal-requires-clause-room
put_cc_principal-requires-clause-room g c = left_room (cc_principal (principal_parts c.self.inside.client)) _ (left_all {pen = c.args.pen.now} (sym (four_is c.args.self.now _ c.self.view_is)) c.requires.room) refl

pub put_cc_principal-requires-2-clause-spelled : goal.put_cc_principal-requires-2-clause-spelled
put_cc_principal-requires-2-clause-spelled g c = ap (λ (x : CredParts). cc_name_fits x.server) c.self.view_is ∙ fits_spelled c.args.self.now.server c.requires.fits.server

pub put_cc_principal-requires-2-clause-room : goal.put_cc_principal-requires-2-clause-room
put_cc_principal-requires-2-clause-room g c = left_room (cc_principal (principal_parts c.self.inside.server)) _ (left_next (left_all {pen = c.args.pen.now} (sym (four_is c.args.self.now _ c.self.view_is)) c.requires.room) refl c.put_cc_principal.ensures) refl

pub put_middle-requires-clause-room : goal.put_middle-requires-clause-room
put_middle-requires-clause-room g c = left_room (middle_text c.args.self.now) _ (left_next (left_next (left_all {pen = c.args.pen.now} (sym (four_is c.args.self.now _ c.self.view_is)) c.requires.room) refl c.put_cc_principal.ensures) refl c.put_cc_principal-2.ensures) refl

pub put_lists-requires-clause-room : goal.put_lists-requires-clause-room
put_lists-requires-clause-room g c = (left_next (left_next (left_next (left_all {pen = c.args.pen.now} (sym (four_is c.args.self.now _ c.self.view_is)) c.requires.room) refl c.put_cc_principal.ensures) refl c.put_cc_principal-2.ensures) refl c.put_middle.ensures).room

pub returns : goal.returns
returns g c =
    subst (Puts c.args.pen.now c.put_lists.new.pen) (four_is c.args.self.now _ c.self.view_is)
    (puts_then c.put_cc_principal.ensures (puts_then c.put_cc_principal-2.ensures (puts_then c.put_middle.ensures c.put_lists.ensures)))

use Rattle.krb_ccache.proofs.Cited.{refl, sym, ap, subst, ◌∙◌, IsLong, Puts, puts_then, CredParts, FitsTypedList, owned_list, left_room, left_next, left_all, data32, Big, typed_list}
use Rattle.krb_ccache.proofs.SpellingLemmas.{lists_is}
use Rattle.krb_ccache.proofs.credential.Cred.put_lists.Goals as goal

pub put_list-requires-clause-fits : goal.put_list-requires-clause-fits
put_list-requires-clause-fits g c =
    subst FitsTypedList (sym (ap owned_list c.deref.ensures.value ∙ ap (λ (x : CredParts). x.addresses) c.self.view_is)) c.requires.fits.addresses

pub put_list-requires-clause-room : goal.put_list-requires-clause-room
put_list-requires-clause-room g c = left_room (typed_list (owned_list c.deref.result.now)) _ (left_all {pen = c.args.pen.now} (sym (lists_is c.args.self.now _ _ _ _ _ c.self.view_is (ap owned_list c.deref.ensures.value) refl refl refl)) c.requires.room) refl

pub put_list-requires-2-clause-fits : goal.put_list-requires-2-clause-fits
put_list-requires-2-clause-fits g c =
    subst FitsTypedList (sym (ap owned_list c.deref-2.ensures.value ∙ ap (λ (x : CredParts). x.authdata) c.self.view_is)) c.requires.fits.authdata

pub put_list-requires-2-clause-room : goal.put_list-requires-2-clause-room
put_list-requires-2-clause-room g c = left_room (typed_list (owned_list c.deref-2.result.now)) _ (left_next (left_all {pen = c.args.pen.now} (sym (lists_is c.args.self.now _ _ _ _ _ c.self.view_is (ap owned_list c.deref.ensures.value) (ap owned_list c.deref-2.ensures.value) refl refl)) c.requires.room) refl c.put_list.ensures) refl

pub put_data32-requires-clause-long : goal.put_data32-requires-clause-long
put_data32-requires-clause-long g c = subst IsLong (sym (c.deref-3.ensures.value ∙ ap (λ (x : CredParts). x.ticket) c.self.view_is)) c.requires.fits.ticket

pub put_data32-requires-clause-room : goal.put_data32-requires-clause-room
put_data32-requires-clause-room g c = left_room (data32 Big c.deref-3.result.now) _ (left_next (left_next (left_all {pen = c.args.pen.now} (sym (lists_is c.args.self.now _ _ _ _ _ c.self.view_is (ap owned_list c.deref.ensures.value) (ap owned_list c.deref-2.ensures.value) c.deref-3.ensures.value refl)) c.requires.room) refl c.put_list.ensures) refl c.put_list-2.ensures) refl

pub put_data32-requires-2-clause-long : goal.put_data32-requires-2-clause-long
put_data32-requires-2-clause-long g c = subst IsLong (sym (c.deref-4.ensures.value ∙ ap (λ (x : CredParts). x.second_ticket) c.self.view_is)) c.requires.fits.second_ticket

pub put_data32-requires-2-clause-room : goal.put_data32-requires-2-clause-room
put_data32-requires-2-clause-room g c = (left_next (left_next (left_next (left_all {pen = c.args.pen.now} (sym (lists_is c.args.self.now _ _ _ _ _ c.self.view_is (ap owned_list c.deref.ensures.value) (ap owned_list c.deref-2.ensures.value) c.deref-3.ensures.value c.deref-4.ensures.value)) c.requires.room) refl c.put_list.ensures) refl c.put_list-2.ensures) refl c.put_data32.ensures).room

pub returns : goal.returns
returns g c =
    subst (Puts c.args.pen.now c.put_data32-2.new.self) (lists_is c.args.self.now _ _ _ _ _ c.self.view_is (ap owned_list c.deref.ensures.value) (ap owned_list c.deref-2.ensures.value) c.deref-3.ensures.value c.deref-4.ensures.value)
    (puts_then c.put_list.ensures (puts_then c.put_list-2.ensures (puts_then c.put_data32.ensures c.put_data32-2.ensures)))

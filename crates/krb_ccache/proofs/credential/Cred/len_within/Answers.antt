use Rattle.krb_ccache.proofs.Cited.{arith, refl, ap, ◌∙◌, owned_list}
use Rattle.krb_ccache.proofs.SpellingLemmas.{none_if, client_too_long, server_too_long, lens_within, lens_too_long, LensWithin, addresses_too_long, authdata_too_long, room_within, parts_within, fits_by}
use Rattle.krb_ccache.proofs.credential.Cred.len_within.Goals as goal

pub returns-in_err-client-clause-none : goal.returns-in_err-client-clause-none
returns-in_err-client-clause-none g c = none_if c.from_residual.ensures (client_too_long c.args.self.now _ c.args.most c.self.view_is c.requires c.in_err-client.ensures.none)

pub returns-in_err-server-clause-none : goal.returns-in_err-server-clause-none
returns-in_err-server-clause-none g c = none_if c.from_residual-in_err-server.ensures (server_too_long c.args.self.now _ c.args.most c.self.view_is c.requires c.in_err-server.ensures.none)

pub returns-in_err-len-clause-none : goal.returns-in_err-len-clause-none
returns-in_err-len-clause-none g c =
    let i = c.self.inside in
    let fit_lens = lens_within c.args.self.now _ _ _ _ _ _ c.self.view_is c.in_ok-client.ensures.len c.in_ok-server.ensures.len (c.len.ensures ∙ i.key.ok.0) (c.len-2.ensures ∙ i.ticket.ok.0) (c.len-3.ensures ∙ i.second_ticket.ok.0) in
    none_if c.from_residual-in_err-len.ensures (lens_too_long c.args.self.now _ c.args.most _ c.self.view_is fit_lens c.in_err-len.ensures.none)

pub returns-in_err-room-clause-none : goal.returns-in_err-room-clause-none
returns-in_err-room-clause-none g c = search (arith, lens_within, none_if, addresses_too_long)

pub returns-in_err-room-2-clause-none : goal.returns-in_err-room-2-clause-none
returns-in_err-room-2-clause-none g c =
    let i = c.self.inside in
    let fit_lens = lens_within c.args.self.now _ _ _ _ _ _ c.self.view_is c.in_ok-client.ensures.len c.in_ok-server.ensures.len (c.len.ensures ∙ i.key.ok.0) (c.len-2.ensures ∙ i.ticket.ok.0) (c.len-3.ensures ∙ i.second_ticket.ok.0) in
    let t : LensWithin c.args.self.now _ c.args.most c.in_ok-len.len = record { same = c.self.view_is; lens = c.in_ok-len.ensures.some ∙ fit_lens; within = c.in_ok-len.ensures.within } in
    none_if c.from_residual-in_err-room-2.ensures
    (authdata_too_long c.args.self.now _ c.args.most c.in_ok-len.len c.in_ok-room.room _ _ t (ap owned_list c.deref.ensures.value) (ap owned_list c.deref-2.ensures.value) c.in_ok-room.ensures.some c.in_err-room-2.ensures.none)

pub returns-clause-some : goal.returns-clause-some
returns-clause-some g c =
    let i = c.self.inside in
    let fit_lens = lens_within c.args.self.now _ _ _ _ _ _ c.self.view_is c.in_ok-client.ensures.len c.in_ok-server.ensures.len (c.len.ensures ∙ i.key.ok.0) (c.len-2.ensures ∙ i.ticket.ok.0) (c.len-3.ensures ∙ i.second_ticket.ok.0) in
    let t : LensWithin c.args.self.now _ c.args.most c.in_ok-len.len = record { same = c.self.view_is; lens = c.in_ok-len.ensures.some ∙ fit_lens; within = c.in_ok-len.ensures.within } in
    room_within c.args.self.now _ c.args.most c.in_ok-len.len c.in_ok-room.room c.in_ok-room-2.room _ _ t (ap owned_list c.deref.ensures.value) (ap owned_list c.deref-2.ensures.value) c.in_ok-room.ensures.some c.in_ok-room-2.ensures.some

pub returns-clause-fits : goal.returns-clause-fits
returns-clause-fits g c =
    let n = c.numbers_fit.ensures in
    let i = c.self.inside in
    let fit_lens = lens_within c.args.self.now _ _ _ _ _ _ c.self.view_is c.in_ok-client.ensures.len c.in_ok-server.ensures.len (c.len.ensures ∙ i.key.ok.0) (c.len-2.ensures ∙ i.ticket.ok.0) (c.len-3.ensures ∙ i.second_ticket.ok.0) in
    let t : LensWithin c.args.self.now _ c.args.most c.in_ok-len.len = record { same = c.self.view_is; lens = c.in_ok-len.ensures.some ∙ fit_lens; within = c.in_ok-len.ensures.within } in
    let parts = parts_within c.args.self.now _ c.args.most c.in_ok-len.len c.in_ok-room.room c.in_ok-room-2.room _ _ t c.requires (ap owned_list c.deref.ensures.value) (ap owned_list c.deref-2.ensures.value) c.in_ok-room.ensures.some c.in_ok-room-2.ensures.some
    c.in_ok-client.ensures.some c.in_ok-server.ensures.some refl c.in_ok-room.ensures.fits c.in_ok-room-2.ensures.fits in
    fits_by c.args.self.now _ c.self.view_is parts n.client n.server n.enctype n.is_skey n.flags n.times

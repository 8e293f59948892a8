use Rattle.krb_keytab.proofs.Cited.{◌≡◌, ◌∙◌, ℕ, Bool, cond, [], length, sym, ap, w32, Big, digits, name_type_field}
use Rattle.krb_keytab.proofs.PrefixLemmas.{cut_is_prefix}
use Rattle.krb_keytab.proofs.look_up.find.prefix_of.Goals as goal
use Rattle.krb_keytab.proofs.look_up.find.prefix_of.Goals.{then-has_name_type, else-has_name_type}

pub returns-after-has_name_type : goal.returns-after-has_name_type
returns-after-has_name_type g c =
    let f = c.args.format in
    let name = g.N.Name.parts c.args.name.now in
    let len_if : Bool → ℕ = λ b. length (cond b (digits Big w32 name.name_type) []) in
    let typed : c.if-has_name_type.name_type ≡ length (name_type_field f name.name_type) =
    elim c.if-has_name_type.branch [
      | then-has_name_type w ↦ w.name_type-is ∙ ap len_if (sym w.if-has_name_type.true ∙ c.has_name_type.ensures)
      | else-has_name_type w ↦ w.name_type-is ∙ ap len_if (sym w.if-has_name_type.false ∙ c.has_name_type.ensures)
    ] in
    rw c.put_kt_principal-end.ensures.written (cut_is_prefix f name c.args.room.now c.put_kt_principal-end.result c.if-has_name_type.name_type c.put_kt_principal-end.ensures.next typed)

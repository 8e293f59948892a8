-- The table of encryption types.
use Rattle.krb_text.proofs.Cited.{◌≡◌, ℕ, List, [], true, false, Option, Some, None, IsSome, IfSome, ◌==◌, refl, ap, ◌∙◌, slice_get, eqb-true, AllByRecursion}
use Rattle.std.specs.Option.{MatchOption, option_map_or, unwrap_or}
use Rattle.krb_text.specs.Etype.{Etype, etype_table, etype_numbered, etype_name_of, etype_text_of, etype_in, unnamed}
use Rattle.krb_text.proofs.Found.{MatchOption-find}

-- the name that is printed of an enctype, if it has one, is read back as its number
abbrev IsRead : Etype → Type 0
IsRead e = IfSome (slice_get e.names 0) (λ name. etype_in name ≡ Some e.number)

-- so is each of the table
table_is_read : AllByRecursion IsRead etype_table
unfolding etype_table etype_in
table_is_read = (tt, (tt, (tt, (tt, (tt, (tt, (refl, (refl, (refl, (refl, (refl, (refl, (tt, (refl, (refl, tt)))))))))))))))

-- so is the text of an enctype that has a name
named_is_read : (n number : ℕ) (o : Option (List ℕ)) → IfSome o (λ name. etype_in name ≡ Some number) → number ≡ n → IsSome o → etype_in (unwrap_or o (unnamed n)) ≡ Some n
named_is_read n number (Some name) read is h = read ∙ ap Some is
named_is_read n number None read is h = let no : false ≡ true = h in cc

row_is_read : (n : ℕ) (o : Option Etype) → MatchOption o (Unit {0}) (λ e. IsRead e × ((e.number == n) ≡ true)) → IsSome (slice_get (option_map_or (λ e. e.names) o []) 0)
    → etype_in (unwrap_or (slice_get (option_map_or (λ e. e.names) o []) 0) (unnamed n)) ≡ Some n
row_is_read n (Some e) m h = named_is_read n e.number (slice_get e.names 0) m.0 (eqb-true e.number n m.1) h
row_is_read n None m h = let no : false ≡ true = h in cc

-- the text of an enctype that has a name is read back as its number
pub read_text : (n : ℕ) → IsSome (etype_name_of n) → etype_in (etype_text_of n) ≡ Some n
read_text n h = row_is_read n (etype_numbered n) (MatchOption-find IsRead (λ e. e.number == n) etype_table table_is_read) h

-- The names of entries are numbered, one entry after the other.
use Rattle.krb_audit.proofs.Cited.{◌≡◌, ap₂, arith, first_number, List, [], ◌∷◌, ◌++◌, length, refl, sym, ap, ◌∙◌, append_assoc, append-nil, map, length-map, KtFormat, Parts, have_same_name, PlacedEntry, Row, AreNumbered, AreRows, IsNameKey, name_in, row_in, shown, stamp_of, map_push, HashedName, name_cmp, Names}
use Rattle.std.specs.Ordering.{is_eq}
use Rattle.krb_names.specs.Numbers.{GetsNumber}
use Rattle.krb_names.proofs.NameOrder.{hashes_tie}
use Rattle.krb_names.proofs.Numbered.{number_is, numbers_next}
use Rattle.krb_names.proofs.SameNames.{same_equiv}
use Rattle.krb_text.specs.Etype.{is_weak}
use Rattle.krb_audit.proofs.NameBytes.{same_bytes}

-- names are the same iff their keys compare equal
keys_tie : (f : KtFormat) (p q : Parts) (k l : HashedName) → IsNameKey f p k → IsNameKey f q l → is_eq (name_cmp k l) ≡ have_same_name p q
keys_tie f p q k l of_p of_q = grind (arith, hashes_tie k l of_p.hash of_q.hash, of_p.bytes, of_q.bytes, same_bytes f p q of_p.fits of_q.fits)

pub none_numbered : {A : Type 0} (f : KtFormat) (all rest : List PlacedEntry) (names : Names A) → rest ≡ all → names.numbers.entries ≡ [] → names.rows.items ≡ [] → AreNumbered f all rest names
none_numbered f all rest names is empty none = record { before = []; parts = is; numbers = λ p k of_p. rw empty refl; rows = rw none refl }

pub numbered_next : {A : Type 0} (f : KtFormat) (all rest : List PlacedEntry) (x : PlacedEntry) (names new : Names A) (k : HashedName) (row : Row) → AreNumbered f all (x ∷ rest) names → IsNameKey f (name_in x) k → GetsNumber names.numbers new.numbers k (length names.rows.items) row.first → row.stamp ≡ stamp_of x.1 → row.is_weak ≡ is_weak x.1.enctype → new.rows.items ≡ names.rows.items ++ row ∷ []
    → AreNumbered f all rest new
numbered_next f all rest x names new k row h of_x gets stamp weak pushed =
    let count : length names.rows.items ≡ length h.before = sym (length-map names.rows.items shown) ∙ ap length h.rows ∙ length-map h.before (row_in all) in
    let number = ap (first_number (name_in x)) (sym h.parts) ∙ number_is name_in have_same_name same_equiv (IsNameKey f) (keys_tie f) h.before x k (length names.rows.items) row.first names.numbers new.numbers h.numbers of_x count gets rest in
    let here : shown row ≡ row_in all x = λ i. (sym number i, stamp i, weak i) in
    record {
      before = h.before ++ x ∷ [];
      parts = append_assoc h.before (x ∷ []) rest ∙ h.parts;
      numbers = numbers_next name_in have_same_name same_equiv (IsNameKey f) (keys_tie f) h.before x k (length names.rows.items) row.first names.numbers new.numbers h.numbers of_x count gets;
      rows = ap (map shown) pushed ∙ map_push shown names.rows.items row ∙ ap₂ (λ l r. l ++ r ∷ []) h.rows here ∙ sym (map_push (row_in all) h.before x);
    }

-- all entries have rows
pub all_numbered : {A : Type 0} (f : KtFormat) (all : List PlacedEntry) (names : Names A) → AreNumbered f all [] names → AreRows all all names.rows.items
all_numbered f all names h = h.rows ∙ ap (map (row_in all)) (sym (append-nil h.before) ∙ h.parts)

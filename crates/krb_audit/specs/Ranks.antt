-- How the entries of a keytab rank among those of their names.
use Rattle.std.specs.Prelude.{ℕ, List, [], ◌∷◌, ◌++◌, Bool, not, ◌&&◌, if◌then◌else◌, Option, Some}
use Rattle.std.specs.List.{list_any}
use Rattle.std.specs.Option.{option_map_or}
use Rattle.krb_wire.specs.Names.{have_same_name}
use Rattle.krb_wire.specs.Spelling.{Parts}
use Rattle.krb_keytab.specs.Find.{PlacedEntry}
use Rattle.krb_text.specs.Etype.{is_weak}
use Rattle.krb_audit.specs.declared.ranks.Rank.{Rank}
use Rattle.krb_audit.specs.Newest.{is_old, newest}
use Rattle.krb_audit.specs.Rows.{first_number}

-- what is read of each entry and of those before it, after the entries `before`
abbrev pub mapped_after : {X : Type 0} → (List PlacedEntry → PlacedEntry → X) → List PlacedEntry → List PlacedEntry → List X
mapped_after read before [] = []
mapped_after read before (x ∷ xs) = read before x ∷ mapped_after read (before ++ x ∷ []) xs

-- the entries for which a test holds, of each and of those before it, after the entries `before`
abbrev pub kept_after : (List PlacedEntry → PlacedEntry → Bool) → List PlacedEntry → List PlacedEntry → List PlacedEntry
kept_after test before [] = []
kept_after test before (x ∷ xs) = if test before x then x ∷ kept_after test (before ++ x ∷ []) xs else kept_after test (before ++ x ∷ []) xs

-- an entry is the first of its name, after the entries `before`
abbrev pub is_first : List PlacedEntry → PlacedEntry → Bool
is_first before x = not (list_any (λ y. have_same_name x.1.principal y.1.principal) before)

-- the newest kvno of a name
abbrev pub newest_kvno : Parts → List PlacedEntry → ℕ
newest_kvno name xs = option_map_or (λ e. e.version) (newest name xs) 0

-- an entry has a name, its newest kvno, and an enctype that is not weak
abbrev pub is_strong_of : List PlacedEntry → Parts → PlacedEntry → Bool
is_strong_of xs name x = have_same_name name x.1.principal && (not (is_weak x.1.enctype) && not (is_old xs x.1))

-- each entry of a name's newest kvno has a weak enctype
abbrev pub lacks_strong : List PlacedEntry → Parts → Bool
lacks_strong xs name = not (list_any (is_strong_of xs name) xs)

-- how an entry ranks: the number of its name's first entry and the newest kvno of the name, whether it is the first, whether it is old, and whether the name lacks strong keys
pub record RankParts : Type 0 where
  pub first : Option ℕ
  pub newest : ℕ
  pub is_first : Bool
  pub is_old : Bool
  pub lacks_strong : Bool

-- how an entry ranks among all, after the entries before it
abbrev pub rank_of : List PlacedEntry → List PlacedEntry → PlacedEntry → RankParts
rank_of all before x = record {
  first = first_number x.1.principal all;
  newest = newest_kvno x.1.principal all;
  is_first = is_first before x;
  is_old = is_old all x.1;
  lacks_strong = lacks_strong all x.1.principal;
}

-- what a rank has
abbrev pub shown_rank : Rank → RankParts
shown_rank r = record { first = Some r.first; newest = r.newest; is_first = r.is_first; is_old = r.is_old; lacks_strong = r.lacks_strong }

-- What klist prints of a file if its output fails.
use Rattle.krb_readers.proofs.Cited.{arith, ◌≡◌, ℕ, List, [], ◌∷◌, ◌++◌, Bool, true, IsFalse, Result, Ok, Err, codes, Appends, Watch, AppendsPrefix, is_write_fault, Appends-nil, Appends-trans, AppendsPrefix-after, AppendsPrefix-all, AppendsPrefix-longer, OutFault, Prints, gap, listed_text, ShowsPage, Page, Ending, output_error}
use Rattle.krb_readers.specs.declared.klist.Listed.{Listed}
use Rattle.krb_readers.specs.declared.klist.Listed.TheVariants as listed

-- a text with an end of line is not empty
pub line-some : (text : List ℕ) → text ++ codes "\n" ≡ [] → ⊥
line-some [] is = cc
line-some (x ∷ xs) is = cc

-- what is printed of a file is not empty
pub listed_text-some : {A : Type 0} (json : Bool) (file : List ℕ) (of : Listed A) → listed_text json file of ≡ [] → ⊥
listed_text-some json file of is = search (arith, line-some)

-- nor is it after a gap
pub gap-some : (json is_after : Bool) (text : List ℕ) → (text ≡ [] → ⊥) → gap json is_after ++ text ≡ [] → ⊥
gap-some json is_after text some is = search arith

-- nothing was printed
pub prints_none : (out : Watch) → IsFalse out.failed → Prints {T = Unit {0}} out out (Ok tt) []
prints_none out well = record { ok = Appends-nil out.contents; prefix = tt; failed = well }

-- one text was printed, and then another
pub Prints-then : {T U : Type 0} (a b c : Watch) (first second : List ℕ) (x : T) (result : Result U OutFault) → Prints a b (Ok x) first → Prints b c result second → Prints a c result (first ++ second)
Prints-then a b c first second x result p q = search (arith, Appends-trans, AppendsPrefix-after)

-- the first of two texts was not printed as a whole
pub Prints-longer : {T : Type 0} (a b : Watch) (first second : List ℕ) (fault : OutFault) → Prints {T = T} a b (Err fault) first → Prints {T = T} a b (Err fault) (first ++ second)
Prints-longer a b first second fault p = record { ok = tt; prefix = AppendsPrefix-longer a.contents b.contents first second p.prefix; failed = p.failed }

-- the whole page was printed
pub ShowsPage-done : (page : Page) (out out' : Watch) (ending : Ending) → IsFalse out.failed → IsFalse out'.failed → Appends out.contents out'.contents page.out → ending ≡ page.ending → ShowsPage out out' ending page
ShowsPage-done page out out' ending well still appends is = search (arith, AppendsPrefix-all)

-- the output failed, or memory ran out, before the end of a page
pub ShowsPage-failed : (T : Type 0) (page : Page) (out out' : Watch) (fault : OutFault) → page.takes ≡ true → (page.out ≡ [] → ⊥) → AppendsPrefix out.contents out'.contents page.out
    → out'.failed ≡ is_write_fault {T = T} (Err fault) → ShowsPage out out' (Err (output_error fault)) page
ShowsPage-failed T page out out' fault takes some prefix failed = search arith

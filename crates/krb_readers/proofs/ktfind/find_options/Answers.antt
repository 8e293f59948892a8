use Rattle.krb_readers.proofs.Cited.{◌≡◌, ◌∙◌, ℕ, List, Ok, ap, subst, err_from_is_err_and, codes, None, result_err, Matched, v1_order, ◌>>=◌, spelled_etype, spelled_name, spelled_version, no_mistake, EntrySought, entry_sought_of}
use Rattle.krb_wire.specs.Reading.{principal_parts}
use Rattle.krb_wire.specs.Spelling.{Parts}
use Rattle.krb_readers.proofs.Options.{put_err, two_words}
use Rattle.krb_readers.proofs.ktfind.find_options.Goals as goal

-- what is looked for, with this version, type and name
abbrev sought_of : Matched → ℕ → ℕ → Parts → EntrySought
sought_of words kvno enctype name = record { name = name; kvno = kvno; enctype = enctype; v1_order = v1_order words }

-- the name is spelled last
last : (words : Matched) (kvno enctype : ℕ) → spelled_version (words.operand (codes "KVNO")) ≡ Ok kvno → spelled_etype (words.operand (codes "ETYPE")) ≡ Ok enctype
    → entry_sought_of words ≡ (spelled_name (words.operand (codes "NAME")) >>= (λ name. Ok (sought_of words kvno enctype name)))
last words kvno enctype version etype =
    two_words (spelled_version (words.operand (codes "KVNO"))) (spelled_etype (words.operand (codes "ETYPE"))) (λ x y. spelled_name (words.operand (codes "NAME")) >>= (λ name. Ok (sought_of words x y name))) kvno enctype version etype

pub returns-in_err-name : goal.returns-in_err-name
returns-in_err-name g c =
    let p = err_from_is_err_and c.from_residual-in_err-name.result c.from_residual-in_err-name.ensures.1 in
    let words = g.M.Matches.matched c.args.matches.now in
    let version = rw c.operand.ensures at c.in_ok-kvno.ensures in
    let etype = rw c.operand-2.ensures at c.in_ok-enctype.ensures in
    rw (p.1, p.2) (ap result_err (last words _ _ version etype) ∙ put_err (spelled_name (words.operand (codes "NAME"))) (sought_of words _ _) ∙ (rw c.operand-3.ensures at c.in_err-name.ensures))

pub returns-in_err-name-2 : goal.returns-in_err-name-2
returns-in_err-name-2 g c =
    let p = err_from_is_err_and c.from_residual-in_err-name-2.result c.from_residual-in_err-name-2.ensures.1 in
    let words = g.M.Matches.matched c.args.matches.now in
    let version = rw c.operand.ensures at c.in_ok-kvno.ensures in
    let etype = rw c.operand-2.ensures at c.in_ok-enctype.ensures in
    rw (p.1, p.2) (ap result_err (last words _ _ version etype) ∙ put_err (spelled_name (words.operand (codes "NAME"))) (sought_of words _ _)
    ∙ subst (λ (w : List ℕ). result_err (spelled_name w) ≡ None) c.operand-3.ensures (no_mistake principal_parts (spelled_name c.operand-3.result.now) c.in_ok-name.name c.in_ok-name.ensures))

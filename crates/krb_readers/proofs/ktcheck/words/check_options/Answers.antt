use Rattle.krb_readers.proofs.Cited.{None, odd_only, ◌≡◌, ◌∙◌, ℕ, List, KeytabCheck, Ok, Result, ap, err_from_is_err_and, map, codes, Option, result_err, FindingSet, Matched, MistakeParts, first_value, twice, v1_order, ◌>>=◌, each, printed_name, spelled_seconds, no_mistake, keytab_check_of, spelled_findings}
use Rattle.std.specs.Vec.{vec_items}
use Rattle.krb_readers.proofs.Options.{put_err, two_words}
use Rattle.krb_readers.proofs.ktcheck.words.check_options.Goals as goal

-- the options of words, with these findings, age and names
abbrev options_of : Matched → FindingSet → Option ℕ → List (List ℕ) → KeytabCheck
options_of words allowed older wanted = record {
  v1_order = v1_order words;
  quiet = words.flag (codes "quiet");
  json = words.flag (codes "json");
  with_filename = words.flag (codes "with-filename");
  allowed = allowed;
  older = older;
  wanted = wanted;
  only = words.flag (codes "only");
}

-- the names are spelled last
last : (words : Matched) (allowed : FindingSet) (older : Option ℕ) → twice words (codes "older") (codes "--older") (codes "--older") ≡ None → odd_only words ≡ None → spelled_findings (words.values (codes "allow")) ≡ Ok allowed
    → spelled_seconds (first_value words (codes "older")) ≡ Ok older → keytab_check_of words ≡ (each printed_name (words.values (codes "want")) >>= (λ names. Ok (options_of words allowed older names)))
last words allowed older once wants allow age =
    rw (once, wants) (two_words (spelled_findings (words.values (codes "allow"))) (spelled_seconds (first_value words (codes "older"))) (λ x y. each printed_name (words.values (codes "want")) >>= (λ names. Ok (options_of words x y names))) allowed older allow age)

pub returns-in_err-wanted : goal.returns-in_err-wanted
returns-in_err-wanted g c =
    let p = err_from_is_err_and c.from_residual-in_err-wanted.result c.from_residual-in_err-wanted.ensures.1 in
    let words = g.M.Matches.matched c.args.matches.now in
    let allow = rw c.values.ensures at c.in_ok-allowed.ensures in
    rw (p.1, p.2) (ap result_err (last words _ _ c.in_ok-refuse_twice.ensures c.in_ok-refuse_odd_only.ensures allow c.in_ok-older.ensures) ∙ put_err (each printed_name (words.values (codes "want"))) (options_of words _ _) ∙ c.in_err-wanted.ensures)

pub returns-in_err-wanted-2 : goal.returns-in_err-wanted-2
returns-in_err-wanted-2 g c =
    let p = err_from_is_err_and c.from_residual-in_err-wanted-2.result c.from_residual-in_err-wanted-2.ensures.1 in
    let words = g.M.Matches.matched c.args.matches.now in
    let allow = rw c.values.ensures at c.in_ok-allowed.ensures in
    rw (p.1, p.2) (ap result_err (last words _ _ c.in_ok-refuse_twice.ensures c.in_ok-refuse_odd_only.ensures allow c.in_ok-older.ensures) ∙ put_err (each printed_name (words.values (codes "want"))) (options_of words _ _)
    ∙ no_mistake (λ names. map vec_items names.items) _ c.in_ok-wanted.wanted c.in_ok-wanted.ensures)

pub returns : goal.returns
returns g c =
    let words = g.M.Matches.matched c.args.matches.now in
    let allow = rw c.values.ensures at c.in_ok-allowed.ensures in
    let names = rw c.in_ok-wanted-2.was at c.in_ok-wanted.ensures in
    let all = last words _ _ c.in_ok-refuse_twice.ensures c.in_ok-refuse_odd_only.ensures allow c.in_ok-older.ensures
    ∙ ap (λ (r : Result (List (List ℕ)) MistakeParts). r >>= (λ names. Ok (options_of words c.in_ok-allowed.allowed c.in_ok-older.older names))) names in
    (ap result_err all, rw (c.v1_order.ensures, c.flag.ensures, c.flag-2.ensures, c.flag-3.ensures, c.flag-4.ensures) all)

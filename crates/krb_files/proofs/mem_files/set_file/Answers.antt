use Rattle.krb_files.proofs.Cited.{ap, sym, subst, ◌∙◌, string_bytes, SetsFile, map-append, pairs_of, file_in, with_file}
use Rattle.krb_files.proofs.FileLists.{with_file-at, with_file-none, sets_file}
use Rattle.krb_files.proofs.mem_files.set_file.Goals as goal

pub returns-in-Some-clause-ok : goal.returns-in-Some-clause-ok
returns-in-Some-clause-ok g c =
    with_file-at (λ file. (string_bytes file.0, file.1.items)) c.args.name.now c.args.files.now.items c.in-Some.place c.index_mut.result.now
    (c.index_mut.result.now.0, c.in_ok-copy.copy) (rw c.deref.ensures.value at c.in-Some.ensures) (ap (λ file. string_bytes file.0) c.index_mut.ensures.value)
    ∙ ap (with_file (pairs_of c.args.files.now.items) c.args.name.now) c.in_ok-copy.ensures.items

pub returns-in_ok-push-in-None-clause-ok : goal.returns-in_ok-push-in-None-clause-ok
returns-in_ok-push-in-None-clause-ok g c =
    rw (c.in_ok-push-in-None.ensures.items, map-append)
    (rw (c.in_ok-copy.ensures.items, c.in_ok-from_str-in-None.ensures.ok)
    (sym (with_file-none (λ file. (string_bytes file.0, file.1.items)) c.args.name.now c.args.files.now.items c.args.bytes.now (rw c.deref.ensures.value at c.in-None.ensures))))

pub returns-in-Some-clause-sets : goal.returns-in-Some-clause-sets
returns-in-Some-clause-sets g c =
    let old = pairs_of c.args.files.now.items in
    subst (λ files. SetsFile (file_in old) c.args.name.now c.args.bytes.now (file_in files)) (sym (returns-in-Some-clause-ok g c)) (sets_file old c.args.name.now c.args.bytes.now)

pub returns-in_ok-push-in-None-clause-sets : goal.returns-in_ok-push-in-None-clause-sets
returns-in_ok-push-in-None-clause-sets g c =
    let old = pairs_of c.args.files.now.items in
    subst (λ files. SetsFile (file_in old) c.args.name.now c.args.bytes.now (file_in files)) (sym (returns-in_ok-push-in-None-clause-ok g c)) (sets_file old c.args.name.now c.args.bytes.now)

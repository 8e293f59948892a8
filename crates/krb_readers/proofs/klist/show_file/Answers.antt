use Rattle.krb_readers.proofs.klist.show_file.Goals as goal

-- a cache is listed
pub returns-else-json-2 : goal.returns-else-json-2
returns-else-json-2 g c = rw (c.in-Cache.is, c.if-json-2.false) c.list_cache.ensures

use Rattle.krb_cache_text.proofs.Cited.{◌++◌, IsFalse, lines_of_credentials}
use Rattle.krb_ccache.specs.Store.{placed_credentials}
use Rattle.krb_text.specs.Gathered.{Passed}
use Rattle.krb_cache_text.proofs.listing.list_credentials.Given as goal

abbrev pub invariant-credentials : goal.invariant-credentials
invariant-credentials g l = record {
  well : IsFalse l.out.failed;
  passed : Passed l.fn.out.contents l.out.contents (l.fn.gathered.items ++ lines_of_credentials l.columns (placed_credentials l.cache.state)) (lines_of_credentials l.columns l.credential-iterator) l.gathered.items;
}

use Rattle.krb_readers.proofs.ktmatch.match_with.Goals as goal

pub returns : goal.returns
returns g c = λ several. record {
  ran = record { world = c.match_caches-ran.new.world; state = c.match_caches-ran.result.state; status = c.match_caches-ran.result.status };
  each = rw several at c.match_caches-ran.ensures;
  ends = rw c.sought.ensures at c.end_matches.ensures;
}

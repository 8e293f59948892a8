-- After the length and the version of an image, only its header or its default principal is refused.
use Rattle.krb_c.proofs.Cited.{IfErr, Version, Field, open_header, ℕ, List, Option, arith}
use Rattle.krb_c.specs.CacheOpens.{IsDeeper}

pub header_is_deeper : (v : Version) (limit : ℕ) (h : Option (List Field × List ℕ)) → IfErr (open_header v limit h) IsDeeper
header_is_deeper v limit h = grind arith

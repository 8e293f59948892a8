-- Worked samples of the definitions.
use Rattle.std.specs.Prelude.{◌≡◌, [], ◌∷◌, ◌++◌, codes, Some}
use Rattle.krb_wire.proofs.Cited.{refl, Big, Little, data16_at, kt_principal_at}
use Rattle.krb_wire.specs.declared.format.KtFormat.TheVariants.{V1, V2}
use Rattle.krb_wire.proofs.OnLiterals.{krb_wire_on_literals}

-- a length counts the bytes after it
pub counted : data16_at Big (0 ∷ 2 ∷ codes "abc") ≡ Some (codes "ab", codes "c")
unfolding krb_wire_on_literals
counted = refl

-- the numbers of version 1 are in the byte order of the machine that wrote them; its count has the realm in it
pub little-endian : kt_principal_at (V1 Little) (2 ∷ 0 ∷ 1 ∷ 0 ∷ codes "R" ++ (1 ∷ 0 ∷ codes "a"))
    ≡ Some (record { name_type = 0; realm = codes "R"; components = codes "a" ∷ [] }, [])
unfolding krb_wire_on_literals
little-endian = refl

-- those of version 2 are big-endian, and a name has a type
pub big-endian : kt_principal_at V2 (0 ∷ 1 ∷ 0 ∷ 1 ∷ codes "R" ++ (0 ∷ 1 ∷ codes "a" ++ (0 ∷ 0 ∷ 0 ∷ 1 ∷ [])))
    ≡ Some (record { name_type = 1; realm = codes "R"; components = codes "a" ∷ [] }, [])
unfolding krb_wire_on_literals
big-endian = refl

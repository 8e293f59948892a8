-- The text of a name, split from the left into atoms: a backslash and the byte after it, or one byte (MIT krb5_parse_name).
use Rattle.std.specs.Prelude.{ℕ, Bool, true, false, List, [], ◌∷◌, Option, Some, None, if◌then◌else◌, ◌==◌, ◌||◌}
use Rattle.krb_wire.specs.declared.atom.Atom.{Atom}
use Rattle.krb_wire.specs.declared.atom.Atom.TheVariants.{Byte, Slash, At, Lone}

-- what a byte after a backslash means: `n`, `t`, `b`, `0` are newline, tab, backspace, NUL, and any other is itself
abbrev pub meaning : ℕ → ℕ
meaning b =
    if b == 110 then 10
    else (if b == 116 then 9
    else (if b == 98 then 8
    else (if b == 48 then 0 else b)))

-- the atom of an unquoted byte
abbrev pub unquoted_atom : ℕ → Atom
unquoted_atom b = if b == 47 then Slash else (if b == 64 then At else Byte b)

-- whether an unquoted byte is special: `/`, `@` or the backslash
abbrev pub is_special : ℕ → Bool
is_special b = b == 47 || b == 64 || b == 92

-- the atoms of a text, if a backslash is open before it or not
abbrev pub atoms_after : Bool → List ℕ → List Atom
atoms_after false [] = []
atoms_after true [] = Lone ∷ []
atoms_after true (b ∷ bs) = Byte (meaning b) ∷ atoms_after false bs
atoms_after false (b ∷ bs) = if b == 92 then atoms_after true bs else unquoted_atom b ∷ atoms_after false bs

-- a text as atoms: a byte, quoted or not, a `/` that separates components, or an `@`; a backslash at the end is an atom too
abbrev pub atoms : List ℕ → List Atom
atoms text = atoms_after false text

-- the byte that an atom stands for in a component or a realm
abbrev pub byte_of : Atom → ℕ
byte_of (Byte b) = b
byte_of Slash = 47
byte_of At = 64
byte_of Lone = 92

-- whether an atom separates components
abbrev pub is_slash : Atom → Bool
is_slash (Byte b) = false
is_slash Slash = true
is_slash At = false
is_slash Lone = false

-- the atoms before the first `@`, or all of them if there is none
abbrev pub before_at : List Atom → List Atom
before_at [] = []
before_at (At ∷ rest) = []
before_at (Byte b ∷ rest) = Byte b ∷ before_at rest
before_at (Slash ∷ rest) = Slash ∷ before_at rest
before_at (Lone ∷ rest) = Lone ∷ before_at rest

-- the atoms after the first `@`, if there is one
abbrev pub after_at : List Atom → Option (List Atom)
after_at [] = None
after_at (At ∷ rest) = Some rest
after_at (Byte b ∷ rest) = after_at rest
after_at (Slash ∷ rest) = after_at rest
after_at (Lone ∷ rest) = after_at rest

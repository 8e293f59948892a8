-- The lines of a reader.
use Rattle.std.specs.Prelude.{◌≡◌, ◌⊎◌, ℕ, ◌+◌, ◌≤◌, ◌==◌, List, [], ◌∷◌, ◌++◌, drop, take, length, slice_range, Bool, false, nat_lt, Option, None, Some, IsTrue, if◌then◌else◌}
use Rattle.std.specs.List.{flat_map, onto_first, AllByRecursion}
use Rattle.std.specs.Io.KnownBytes.{Consumes, IsAtEnd}
use Rattle.krb_files.specs.Loading.{most_bytes}

-- no byte is a newline
abbrev pub HasNone : List ℕ → Type 0
HasNone bytes = AllByRecursion (λ b. (b == 10) ≡ false) bytes

-- the lines of an input: the bytes before each newline, and those after the last newline, if there are any
abbrev pub lines_of : List ℕ → List (List ℕ)
lines_of [] = []
lines_of (b ∷ bs) = if b == 10 then [] ∷ lines_of bs else onto_first b (lines_of bs)

-- an input as far as it was read: all those bytes, the last line read, and where the next one begins
pub record InputParts : Type 0 where
  pub read : List ℕ
  pub line : List ℕ
  pub next : ℕ

-- lines, each with its newline
abbrev pub with_newlines : List (List ℕ) → List ℕ
with_newlines lines = flat_map (λ line. line ++ 10 ∷ []) lines

-- bytes are lines, each with a newline, and then some bytes without a newline
pub record CutsOff (lines : List (List ℕ)) (bytes : List ℕ) : Type 0 where
  pub rest : List ℕ
  pub none : HasNone rest
  pub bytes_are : bytes ≡ with_newlines lines ++ rest

-- the line that was read ended with a newline, within what an input may have
pub record EndsInNewline (old new : InputParts) : Type 0 where
  pub within : new.next ≤ most_bytes
  pub read : take new.next new.read ≡ take old.next old.read ++ (new.line ++ 10 ∷ [])

-- the reader is at its end, and all that was read is in lines
pub record IsSpent (input : InputParts) (left : Option (List ℕ)) : Type 0 where
  pub at_end : IsAtEnd left
  pub all : input.next ≡ length input.read

-- a line was read, unless there is none: up to a newline, or all that was left at the end
pub record ReadsLine (is_line : Bool) (old new : InputParts) (left : Option (List ℕ)) : Type 0 where
  pub further : is_line ≡ nat_lt old.next new.next
  pub none : HasNone new.line
  pub ends : (IsTrue is_line × EndsInNewline old new) ⊎ (IsSpent new left × (new.line ≡ drop old.next new.read))

-- no further newline was read, within what an input may have
pub record HasNoMore (old new : InputParts) : Type 0 where
  pub same : new.next ≡ old.next
  pub none : HasNone (slice_range new.read new.next most_bytes)

-- a reader gave some bytes, which were appended to those that were read
pub record Grows (old new : List ℕ) (left left' : Option (List ℕ)) : Type 0 where
  pub given : List ℕ
  pub read : new ≡ old ++ given
  pub consumes : Consumes left left' given

-- the next line begins within what was read, which is at most one byte more than an input may have
pub record IsWithin (input : InputParts) : Type 0 where
  pub next : input.next ≤ length input.read
  pub most : length input.read ≤ most_bytes + 1

-- ---- for private contracts

-- the first newline from one place on is at another
pub record IsFirst (bytes : List ℕ) (from end : ℕ) : Type 0 where
  pub ahead : from ≤ end
  pub before : HasNone (slice_range bytes from end)
  pub rest : drop end bytes ≡ 10 ∷ drop (end + 1) bytes

-- the first newline from a place on, or there is none
abbrev pub FindsNewline : List ℕ → ℕ → Option ℕ → Type 0
FindsNewline bytes from None = HasNone (drop from bytes)
FindsNewline bytes from (Some end) = IsFirst bytes from end

-- the line from `next` ends at this newline, or the input has ended without one
abbrev pub EndsLine : List ℕ → ℕ → Option (List ℕ) → Option ℕ → Type 0
EndsLine bytes next left (Some end) = IsFirst bytes next end
EndsLine bytes next left None = HasNone (drop next bytes) × IsAtEnd left

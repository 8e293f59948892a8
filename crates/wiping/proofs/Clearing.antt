-- The room of a block as bytes, which are cleared one after the other. Assumes `Logic`.
use Rattle.wiping.proofs.Steps.{◌≡◌, ℕ, ◌+◌, ◌-◌, ◌<◌, ◌≤◌, List, [], ◌∷◌, refl, arith, Ura, SProp, ent, sep, apply∗, Fml, fsep, froom, Ty, ty_array, vint, size, align, Logic, sem, ‵, raw, ◌⊛◌, ◌$◌, ◌∵◌, !, qed, by, move, keep, use1, use2, split, rewrite, fsplit, fjoin, feq_i, feq_l, done, block_ptr, nothing, HasSize, zeros}
use Rattle.std.proofs.Common.{suc, ◌*◌, ◌++◌, sym, length}
use native.Mathlib.Nat.{sub-zero}
use lib.ListN.{replicate, length-replicate, replicate-append-replicate}
use base.Fraction.{full_share}
use base.Logic.{wand}
use base.Fml.{feq, fat}
use mir.Syntax.{w8, ty_int}
use prog.Align.{dv_one}
use types.Kit.{frame, assume}
use denote.Memory.{part_at}
use denote.Plain.{uint_in}
use denote.Builtin.{u8}
use denote.RawPtr.Bytes.{bytes, bytes_glue, bytes_apart, bytes_whole, bytes-room}
use denote.RawPtr.Room.{past, room_cut, room_glue}

-- the type of a byte
abbrev pub byte : Ty
byte = ty_int w8

-- n zeros
abbrev pub zeroed : ℕ → List ℕ
zeroed n = replicate n 0

-- the bytes that are cleared are in the block
inside : (τ : Ty) (n : ℕ) → HasSize τ n → n ≤ size τ
inside τ n e = grind (arith, e)

module _ {M : Type 1} {𝓤 : Ura M} (𝓛 : Logic 𝓤) (b o : ℕ) where
  open 𝓛 use {H}

  -- the first i of n bytes are 0, and the others are room
  abbrev pub Half : ℕ → ℕ → Fml
  Half n i = fsep (bytes full_share (zeroed i) b o) (froom (ty_array byte (n - i)) b (i + o))

  module _ (n : ℕ) where
    -- at the end each byte is 0
    pub ends : ent 𝓤 (sem 𝓛 (Half n n)) (sem 𝓛 (zeros n (block_ptr b o)))
    ends = qed 𝓛 (‵ (Half n n) ∷ []) ∵ fsplit ! $ keep ! (0 ∷ []) $ feq_i ! ℕ (length (zeroed n)) n (length-replicate n 0) $ fjoin ! $ by ! (bytes_whole 𝓛 full_share n (zeroed n) b o)

    -- the next byte is room, and once it is 0, one more byte is
    pub next : (i : ℕ) → i < n → ent 𝓤 (sem 𝓛 (Half n i)) (sep 𝓤 (H.room byte b (i + o)) (wand 𝓤 (H.at full_share byte b (i + o) (vint w8 0)) (sem 𝓛 (Half n (i + 1)))))
    next i less =
        let far : i + o ≡ o + length (zeroed i) = (let l : length (zeroed i) ≡ i = length-replicate i 0 in omega arith) in
        qed 𝓛 (‵ (Half n i) ∷ []) ∵ fsplit ! $ move ! (1 ∷ []) $
        rewrite ! 0 (λ (k : ℕ). ‵ (froom (ty_array byte k) b (i + o))) (let e : n - i ≡ suc (n - (i + 1)) = omega arith in e) refl $
        use1 𝓛 (‵ (froom byte b (i + o)) ⊛ ‵ (froom (ty_array byte (n - (i + 1))) b (i + o + 1))) (𝓛.laws.room_uncons byte (n - (i + 1)) b (i + o)) $ split ! $ frame ! $
        rewrite ! 0 (λ (k : ℕ). ‵ (froom (ty_array byte (n - (i + 1))) b k)) (let e : i + o + 1 ≡ i + 1 + o = omega arith in e) refl $ assume ! (‵ (fat full_share byte b (i + o) (vint w8 0))) $
        use1 𝓛 (‵ (part_at u8 full_share 0 b (i + o))) (uint_in 𝓛 full_share w8 0 b (i + o)) $ nothing ! $ move ! (1 ∷ 0 ∷ []) $ fjoin ! $
        rewrite ! 0 (λ (k : ℕ). ‵ (bytes full_share (0 ∷ []) b k)) far refl $ move ! (2 ∷ 0 ∷ []) $
        use2 𝓛 (‵ (bytes full_share (zeroed i ++ 0 ∷ []) b o)) (bytes_glue 𝓛 full_share (zeroed i) (0 ∷ []) b o) $
        rewrite ! 0 (λ (l : List ℕ). ‵ (bytes full_share l b o)) (replicate-append-replicate i 1 0) refl $ fjoin ! $ done !

  module _ (τ : Ty) (n : ℕ) (e : HasSize τ n) where
    -- what is left of a block past `usize::MAX` bytes
    abbrev Rest : SProp 𝓤
    Rest = H.room (ty_array byte (size τ - n)) b (past byte n o)

    -- the block's room as bytes, none of them cleared yet, and the way back from zeros
    pub spread : ent 𝓤 (H.room τ b o) (sep 𝓤 (sem 𝓛 (Half n 0)) (wand 𝓤 (sem 𝓛 (zeros n (block_ptr b o))) (H.room τ b o)))
    spread =
        let All : SProp 𝓤 = H.room (ty_array byte (n + (size τ - n))) b o in
        let sum : n + (size τ - n) ≡ size τ = (let low = inside τ n e in omega arith) in
        let same : size (ty_array byte (n + (size τ - n))) ≡ size τ = (let flat : (n + (size τ - n)) * 1 ≡ size τ = omega arith in flat) in
        qed 𝓛 (‵ (froom τ b o) ∷ []) ∵
        use1 𝓛 (raw All ⊛ raw (wand 𝓤 All (H.room τ b o))) (𝓛.laws.room_as τ (ty_array byte (n + (size τ - n))) b o same (dv_one (align τ))) $ split ! $
        use1 𝓛 (‵ (froom (ty_array byte n) b o) ⊛ raw Rest) (room_cut 𝓛 byte n (size τ - n) b o) $ split ! $
        rewrite ! 0 (λ (k : ℕ). ‵ (froom (ty_array byte n) b k)) (let start : o ≡ 0 + o = omega arith in start) refl $
        rewrite ! 0 (λ (k : ℕ). ‵ (froom (ty_array byte k) b (0 + o))) (sym (sub-zero n)) refl $ nothing ! $ fjoin ! $ frame ! $ assume ! (‵ (zeros n (block_ptr b o))) $
        use1 𝓛 (‵ (fsep (feq ℕ (length (zeroed n)) n) (bytes full_share (zeroed n) b o))) (bytes_apart 𝓛 full_share n (zeroed n) b o) $ fsplit ! $ feq_l ! (λ long.
        use1 𝓛 (raw (H.room (ty_array byte (length (zeroed n))) b o)) (bytes-room 𝓛 (zeroed n) b o) $ rewrite ! 0 (λ (k : ℕ). raw (H.room (ty_array byte k) b o)) long refl $
        use2 𝓛 (raw All) (room_glue 𝓛 byte n (size τ - n) b o) $ by ! (apply∗ 𝓤 All (H.room τ b o)))

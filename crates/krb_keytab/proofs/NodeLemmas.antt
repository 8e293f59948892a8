-- What holds of the nodes of a tree.
use Rattle.krb_keytab.proofs.Cited.{◌≡◌, ℕ, zero, suc, ◌+◌, ◌-◌, ◌*◌, ◌^◌, ◌<◌, ◌≤◌, true, false, List, length, drop, get_or, refl, sym, ap, subst, ◌∙◌, arith, inl, inr, cases_lt, lt-ltb, le-ltb, lt-leb, le-leb, leb_tells, get_or-drop, length-drop, pow-suc, pow-succ', mul-le-mul_left, AreNodes, IsTree, child_with, first_fit, nat_le, slice_index, Some, None, pow_pos, pow-add, pow_mono}
use Rattle.std.proofs.lemmas.List.Sums.{position_or_len_is}

-- after this many levels a descent is at a node of the next: a leaf under it is large enough, and no leaf before those under it is
pub record Descends (height : ℕ) (nodes : List ℕ) (need level node : ℕ) : Type 0 where
  pub low : level ≤ height
  pub from : 2 ^ level ≤ node
  pub to : node < 2 * 2 ^ level
  pub fits : need ≤ slice_index nodes node
  pub before : (i rest : ℕ) → rest + level ≡ height → 2 ^ height ≤ i → i < node * 2 ^ rest → slice_index nodes i < need

-- ---- numbers of nodes

times_left : (i s : ℕ) → 2 * i * s ≡ 2 * (i * s)
times_left i s = omega arith

times_right : (i s : ℕ) → (2 * i + 1) * s ≡ 2 * (i * s) + s
times_right i s = omega arith

times_twice : (i s : ℕ) → i * (s * 2) ≡ 2 * (i * s)
times_twice i s = omega arith

at_least : (i s : ℕ) → 0 < s → i ≤ i * s
at_least i s pos = let one : 1 ≤ s = omega arith in let more = mul-le-mul_left i one in omega (arith, more)

-- no leaf under a node is greater than it
pub under : (nodes : List ℕ) (leaves : ℕ) → AreNodes leaves nodes → (k i j : ℕ) → 0 < i → i * 2 ^ k + 2 ^ k ≤ 2 * leaves → i * 2 ^ k ≤ j → j < i * 2 ^ k + 2 ^ k → slice_index nodes j ≤ slice_index nodes i
under nodes leaves inner zero i j some room low high = search arith
under nodes leaves inner (suc k) i j some room low high =
    let p : i * 2 ^ suc k ≡ 2 * (i * 2 ^ k) = ap (λ (n : ℕ). i * n) (pow-suc 2 k) ∙ times_twice i (2 ^ k) in
    let q = pow-suc 2 k in
    let left = times_left i (2 ^ k) in
    let right = times_right i (2 ^ k) in
    let inside : i < leaves = omega (arith, p, q, pow_pos k, at_least i (2 ^ k) (pow_pos k)) in
    let greater = inner i (omega arith) inside in
    elim (cases_lt j ((2 * i + 1) * 2 ^ k)) [
      | inl lt ↦
          let ih = under nodes leaves inner k (2 * i) j (omega arith) (omega (arith, p, q, left)) (omega (arith, p, q, left)) (omega (arith, lt, left, right)) in
          omega (arith, ih, greater)
      | inr ge ↦
          let ih = under nodes leaves inner k (2 * i + 1) j (omega arith) (omega (arith, p, q, right)) ge (omega (arith, p, q, right)) in
          omega (arith, ih, greater)
    ]

-- ---- a descent

-- before the last level, the node of a descent has children
pub has_children : (height : ℕ) (nodes : List ℕ) (need level node : ℕ) → IsTree height nodes → Descends height nodes need level node → level < height → (0 < node) × (node < 2 ^ height)
has_children height nodes need level node tree is_at lt =
    let lower : 2 ^ suc level ≤ 2 ^ height = pow_mono (omega arith) in
    (omega (arith, pow_pos level, is_at.from), omega (arith, lower, pow-suc 2 level, is_at.to))

-- no leaf before those under the left child is large enough, and if that child is not, none under it
before_left : (height : ℕ) (nodes : List ℕ) (need level node : ℕ) → Descends height nodes need level node → (i rest : ℕ) → rest + suc level ≡ height → 2 ^ height ≤ i → i < 2 * node * 2 ^ rest → slice_index nodes i < need
before_left height nodes need level node is_at i rest e low high =
    let p : node * 2 ^ suc rest ≡ 2 * (node * 2 ^ rest) = ap (λ (n : ℕ). node * n) (pow-suc 2 rest) ∙ times_twice node (2 ^ rest) in
    is_at.before i (suc rest) (omega arith) low (omega (arith, high, p, times_left node (2 ^ rest)))

room_under : (n s l h : ℕ) → n < 2 * l → 2 * s * l ≡ h → 2 * n * s + s ≤ 2 * h
room_under n s l h lt e =
    let m : n + 1 ≤ 2 * l = omega arith in
    omega (arith, mul-le-mul_left s m, e)

descends_right : (height : ℕ) (nodes : List ℕ) (need level node : ℕ) → IsTree height nodes → Descends height nodes need level node → level < height → slice_index nodes (2 * node) < need → Descends height nodes need (suc level) (2 * node + 1)
descends_right height nodes need level node tree is_at lt small =
    let p = pow-suc 2 level in
    let inner = has_children height nodes need level node tree is_at lt in
    let greater = tree.inner node (omega (arith, inner.0)) inner.1 in
    record {
      low = omega arith;
      from = omega (arith, p, is_at.from);
      to = omega (arith, p, is_at.to);
      fits = omega (arith, greater, is_at.fits, small);
      before = λ i rest e low high. elim (cases_lt i (2 * node * 2 ^ rest)) [
        | inl left ↦ before_left height nodes need level node is_at i rest e low left
        | inr ge ↦
            let e2 : 2 ^ suc rest * 2 ^ level ≡ 2 ^ height = sym (pow-add 2 (suc rest) level) ∙ ap (λ (n : ℕ). 2 ^ n) (omega arith) in
            let e3 : 2 * 2 ^ rest * 2 ^ level ≡ 2 ^ height = sym (ap (λ (n : ℕ). n * 2 ^ level) (pow-succ' 2 rest)) ∙ e2 in
            let room = room_under node (2 ^ rest) (2 ^ level) (2 ^ height) is_at.to e3 in
            let no_more = under nodes (2 ^ height) tree.inner rest (2 * node) i (omega (arith, inner.0)) room ge (omega (arith, high, times_right node (2 ^ rest), times_left node (2 ^ rest))) in
            omega (arith, no_more, small)
      ];
    }

descends_left : (height : ℕ) (nodes : List ℕ) (need level node : ℕ) → IsTree height nodes → Descends height nodes need level node → level < height → need ≤ slice_index nodes (2 * node) → Descends height nodes need (suc level) (2 * node)
descends_left height nodes need level node tree is_at lt fits = search (arith, before_left)

-- it goes on to the child that is chosen
pub descends_on : (height : ℕ) (nodes : List ℕ) (need level node next : ℕ) → IsTree height nodes → Descends height nodes need level node → level < height → next ≡ child_with need node nodes → Descends height nodes need (level + 1) next
descends_on height nodes need level node next tree is_at lt is =
    let up : level + 1 ≡ suc level = omega arith in
    rw (is, up) (elim (leb_tells need (slice_index nodes (2 * node))) [
      | inl y ↦ let yes = y.0 in rw yes (descends_left height nodes need level node tree is_at lt y.1)
      | inr n ↦ let no = n.0 in rw no (descends_right height nodes need level node tree is_at lt n.1)
    ])

-- ---- what it finds

-- on the last level it is at the first leaf that is large enough
pub descends_to : (height : ℕ) (nodes : List ℕ) (need node : ℕ) → IsTree height nodes → Descends height nodes need height node → first_fit need (drop (2 ^ height) nodes) ≡ Some (node - 2 ^ height)
descends_to height nodes need node tree is_at =
    let n = 2 ^ height in
    let xs = drop n nodes in
    let i = node - n in
    let len : length xs ≡ n = omega (arith, length-drop n nodes, tree.len) in
    let inside : i < length xs = omega (arith, len, is_at.from, is_at.to) in
    let here : nat_le need (get_or xs i 0) ≡ true = rw (get_or-drop n nodes i 0) (le-leb need (get_or nodes (n + i) 0) (subst (λ (m : ℕ). need ≤ slice_index nodes m) (omega (arith, is_at.from)) is_at.fits)) in
    let before : (k : ℕ) → k < i → nat_le need (get_or xs k 0) ≡ false = λ k lt. rw (get_or-drop n nodes k 0) (lt-leb need (get_or nodes (n + k) 0) (is_at.before (n + k) 0 (omega arith) (omega arith) (omega (arith, lt)))) in
    let is = position_or_len_is (λ (m : ℕ). nat_le need m) xs i 0 (omega (arith, inside)) before (λ _. here) in
    rw (is, lt-ltb i (length xs) inside) refl

-- if the root is too small, each leaf is
pub none_fits : (height : ℕ) (nodes : List ℕ) (need : ℕ) → IsTree height nodes → slice_index nodes 1 < need → first_fit need (drop (2 ^ height) nodes) ≡ None
none_fits height nodes need tree small =
    let n = 2 ^ height in
    let xs = drop n nodes in
    let len : length xs ≡ n = omega (arith, length-drop n nodes, tree.len) in
    let none : (k : ℕ) → k < length xs → nat_le need (get_or xs k 0) ≡ false = λ k lt.
    let le = under nodes n tree.inner height 1 (n + k) (omega arith) (omega arith) (omega arith) (omega (arith, lt, len)) in
    rw (get_or-drop n nodes k 0) (lt-leb need (get_or nodes (n + k) 0) (omega (arith, le, small))) in
    let is = position_or_len_is (λ (m : ℕ). nat_le need m) xs (length xs) 0 (omega arith) none (λ lt. absurd (omega (arith, lt))) in
    rw (is, le-ltb (length xs) (length xs) (omega arith)) refl

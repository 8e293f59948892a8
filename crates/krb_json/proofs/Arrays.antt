-- The text of an object with arrays in it, in pieces.
use Rattle.krb_json.proofs.Cited.{◌≡◌, ℕ, Bool, true, false, List, [], ◌∷◌, ◌++◌, fold, refl, sym, ap, ◌∙◌, append_assoc, append-nil, Token, begin_object, end_object, begin_array, end_array, key, json_tokens, items_tokens, members_tokens, text_from, text_of, Member, members_of, object_of, array_of, member_tokens, tokens_of, element_text, elements_text, head_tokens, between_tokens, fold-append, items_of, ends, ends_value, arith, flat_map-append}
use Rattle.json.specs.Json.{Json, boolean, array, object, Items, no_items, item, Members, no_members, member}
use Rattle.krb_json.proofs.EscapedLemmas.{text_from-append}

-- ---- the tokens before an array

tokens_push : (ms : List Member) (m : Member) → tokens_of (ms ++ m ∷ []) ≡ tokens_of ms ++ member_tokens m
tokens_push ms m = flat_map-append member_tokens ms (m ∷ []) ∙ ap (λ l. tokens_of ms ++ l) (append-nil (member_tokens m))

-- after a list another, and then a third
pub chain : {X : Type 0} (a b c x y : List X) → b ≡ a ++ x → c ≡ b ++ y → c ≡ a ++ (x ++ y)
chain a b c x y is_b is_c = is_c ∙ ap (λ t. t ++ y) is_b ∙ append_assoc a x y

-- the tokens before an array's first element
pub head_written : (ms : List Member) (name : List ℕ) (none t : List Token) → none ≡ [] → t ≡ none ++ begin_object ∷ tokens_of ms → t ++ key name ∷ begin_array ∷ [] ≡ head_tokens ms name
head_written ms name none t is_none is_t = ap (λ l. l ++ key name ∷ begin_array ∷ []) (is_t ∙ ap (λ l. l ++ begin_object ∷ tokens_of ms) is_none)

-- one more member
pub one_more_member : (ms : List Member) (m : Member) (none t u : List Token) → t ≡ none ++ begin_object ∷ tokens_of ms → u ≡ t ++ member_tokens m → u ≡ none ++ begin_object ∷ tokens_of (ms ++ m ∷ [])
one_more_member ms m none t u is_t is_u =
    is_u ∙ ap (λ l. l ++ member_tokens m) is_t ∙ append_assoc none (begin_object ∷ tokens_of ms) (member_tokens m) ∙ ap (λ l. none ++ begin_object ∷ l) (sym (tokens_push ms m))

-- ---- a value alone

mutual
  -- after a value's tokens, a value has ended
  value_ends : (c : Bool) (v : Json) → fold (λ _ t. ends t) c (json_tokens v) ≡ true
  value_ends c (array js) = items_end false js
  value_ends c (object ms) = members_end false ms
  value_ends c _ = refl

  items_end : (c : Bool) (js : Items) → fold (λ _ t. ends t) c (items_tokens js) ≡ true
  items_end c no_items = refl
  items_end c (item j js) = fold-append (λ _ t. ends t) c (json_tokens j) (items_tokens js) ∙ items_end (fold (λ _ t. ends t) c (json_tokens j)) js

  members_end : (c : Bool) (ms : Members) → fold (λ _ t. ends t) c (members_tokens ms) ≡ true
  members_end c no_members = refl
  members_end c (member k j ms) = fold-append (λ _ t. ends t) false (json_tokens j) (members_tokens ms) ∙ members_end (fold (λ _ t. ends t) false (json_tokens j)) ms

-- after another value, a comma comes first
value_begins : (c : Bool) (v : Json) → text_from c (json_tokens v) ≡ element_text c v
unfolding text_from
value_begins false v = refl
value_begins true (boolean b) = refl
value_begins true _ = refl

-- ---- arrays

-- there is no comma before the end of an array
array_ends : (c : Bool) (ts : List Token) → text_from c (end_array ∷ ts) ≡ text_of (end_array ∷ ts)
unfolding text_from
array_ends c ts = grind arith

-- the text of the elements, and of what follows them
pub elements_print : (c : Bool) (vs : List Json) (ts : List Token) → text_from c (items_tokens (items_of vs) ++ ts) ≡ elements_text c vs ++ text_of (end_array ∷ ts)
elements_print c [] ts = array_ends c ts
elements_print c (v ∷ vs) ts =
    let rest = items_tokens (items_of vs) ++ ts in
    ap (text_from c) (append_assoc (json_tokens v) (items_tokens (items_of vs)) ts)
    ∙ text_from-append c (json_tokens v) rest
    ∙ ap (λ b. text_from c (json_tokens v) ++ text_from b rest) (value_ends c v)
    ∙ ap (λ l. text_from c (json_tokens v) ++ l) (elements_print true vs ts)
    ∙ ap (λ l. l ++ (elements_text true vs ++ text_of (end_array ∷ ts))) (value_begins c v)
    ∙ sym (append_assoc (element_text c v) (elements_text true vs) (text_of (end_array ∷ ts)))

-- ---- members

pub members_append : (ms ns : List Member) → members_tokens (members_of (ms ++ ns)) ≡ tokens_of ms ++ members_tokens (members_of ns)
members_append [] ns = refl
members_append (m ∷ ms) ns =
    ap (λ l. key m.0 ∷ (json_tokens m.1 ++ l)) (members_append ms ns) ∙ sym (append_assoc (member_tokens m) (tokens_of ms) (members_tokens (members_of ns)))

pub members_end_object : (ms : List Member) → members_tokens (members_of ms) ≡ tokens_of ms ++ (end_object ∷ [])
members_end_object [] = refl
members_end_object (m ∷ ms) =
    ap (λ l. key m.0 ∷ (json_tokens m.1 ++ l)) (members_end_object ms) ∙ sym (append_assoc (member_tokens m) (tokens_of ms) (end_object ∷ []))

-- how the tokens of members join
pub ruleset joins = (append_assoc, append-nil, members_append, members_end_object)

-- ---- objects

-- an object, split at an array in it
pub split_at_array : (ms ns : List Member) (name : List ℕ) (vs : List Json)
    → json_tokens (object_of (ms ++ (name, array_of vs) ∷ ns)) ≡ head_tokens ms name ++ (items_tokens (items_of vs) ++ members_tokens (members_of ns))
split_at_array ms ns name vs =
    let rest = items_tokens (items_of vs) ++ members_tokens (members_of ns) in
    ap (λ l. begin_object ∷ l) (members_append ms ((name, array_of vs) ∷ ns) ∙ sym (append_assoc (tokens_of ms) (key name ∷ begin_array ∷ []) rest))

-- before an array's first element, no value has ended
head_is_open : (ms : List Member) (name : List ℕ) → ends_value (head_tokens ms name) ≡ false
head_is_open ms name = fold-append (λ _ t. ends t) false (tokens_of ms) (key name ∷ begin_array ∷ [])

-- the text of an object with an array in it
pub object_print : (ms ns : List Member) (name : List ℕ) (vs : List Json)
    → text_of (json_tokens (object_of (ms ++ (name, array_of vs) ∷ ns))) ≡ text_of (head_tokens ms name) ++ (elements_text false vs ++ text_of (end_array ∷ members_tokens (members_of ns)))
object_print ms ns name vs =
    let rest = items_tokens (items_of vs) ++ members_tokens (members_of ns) in
    ap text_of (split_at_array ms ns name vs)
    ∙ text_from-append false (head_tokens ms name) rest
    ∙ ap (λ b. text_of (head_tokens ms name) ++ text_from b rest) (head_is_open ms name)
    ∙ ap (λ l. text_of (head_tokens ms name) ++ l) (elements_print false vs (members_tokens (members_of ns)))

-- the text of the rest of an object, from the end of an array on, with another array in it
pub rest_print : (ns : List Member) (name : List ℕ) (vs : List Json)
    → text_of (end_array ∷ members_tokens (members_of ((name, array_of vs) ∷ ns))) ≡ text_of (between_tokens name) ++ (elements_text false vs ++ text_of (end_array ∷ members_tokens (members_of ns)))
rest_print ns name vs =
    let rest = items_tokens (items_of vs) ++ members_tokens (members_of ns) in
    text_from-append false (between_tokens name) rest ∙ ap (λ l. text_of (between_tokens name) ++ l) (elements_print false vs (members_tokens (members_of ns)))

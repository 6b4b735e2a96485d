-- Words one by one: so many of them read from a place on, and some stored there.
use Prim.Native.Nat.{ℕ, zero, suc, ◌+◌, ◌≤◌, ◌<◌}
use native.Mathlib.Nat.{add-zero, zero-add, not-suc-le-zero}
use native.Mathlib.Omega.{arith}
use mathlib.Core.Path.{◌≡◌, refl, sym, ap, ◌∙◌}
use mathlib.Core.List.{List, [], ◌∷◌, ◌++◌, append-nil, append_assoc}
use lib.ListN.{length, take, drop, set, take-append-drop, length-drop}
use lib.Seq.{drop-drop, drop-length, get_or-drop, length-take-le, set-set, set_comm, sets, sets-eq}
use Rattle.snapshot.proofs.Lists.{sets_then}
use Rattle.packed.specs.Packing.{word_at, words}

-- words that are there
pub words_take : (k : ℕ) (l : List ℕ) → k ≤ length l → words k l ≡ take k l
words_take zero l h = refl
words_take (suc k) [] h = absurd (omega (arith, h))
words_take (suc k) (x ∷ l) h = ap (λ r. x ∷ r) (words_take k l (omega (arith, h)))

-- so many words, and those after them
pub words_append : (a b : ℕ) (ws : List ℕ) → words a ws ++ words b (drop a ws) ≡ words (a + b) ws
words_append zero b ws = ap (λ k. words k ws) (sym (zero-add b))
words_append (suc a) b ws =
    let e : suc (a + b) ≡ suc a + b = omega arith in
    let one : suc a ≡ 1 + a = omega arith in
    ap (λ l. word_at ws 0 ∷ (words a (drop 1 ws) ++ words b l)) (ap (λ k. drop k ws) one ∙ sym (drop-drop a 1 ws))
    ∙ ap (λ l. word_at ws 0 ∷ l) (words_append a b (drop 1 ws)) ∙ ap (λ k. words k ws) e

-- ---- stores

-- behind an element
pub sets_cons : (x : ℕ) (l : List ℕ) (k : ℕ) (vs : List ℕ) → sets (x ∷ l) (suc k) vs ≡ x ∷ sets l k vs
sets_cons x l k [] = refl
sets_cons x l k (v ∷ vs) = sets_cons x (set l k v) (suc k) vs

sets_nil : (i : ℕ) (vs : List ℕ) → sets [] i vs ≡ []
sets_nil i [] = refl
sets_nil i (v ∷ vs) = sets_nil (suc i) vs

-- what stands there already
pub sets_same : (k : ℕ) (ws : List ℕ) → sets ws 0 (words k ws) ≡ ws
sets_same zero ws = refl
sets_same (suc k) [] = sets_nil 0 (words (suc k) [])
sets_same (suc k) (x ∷ l) = sets_cons x l 0 (words k l) ∙ ap (λ r. x ∷ r) (sets_same k l)

-- one word more
pub sets_more : (ws : List ℕ) (a : ℕ) (vs : List ℕ) (i : ℕ) → i < length vs →
    set (sets ws a (take i vs)) (a + i) (word_at vs i) ≡ sets ws a (take (suc i) vs)
sets_more ws a [] i h = absurd (not-suc-le-zero h)
sets_more ws a (v ∷ vs) zero h = ap (λ k. set ws k v) (add-zero a)
sets_more ws a (v ∷ vs) (suc i) h =
    let e : a + suc i ≡ suc a + i = omega arith in
    ap (λ k. set (sets (set ws a v) (suc a) (take i vs)) k (word_at vs i)) e ∙ sets_more (set ws a v) (suc a) vs i (omega
    (arith, h))

-- stores where others end
pub sets_next : (ws : List ℕ) (a : ℕ) (us vs : List ℕ) (k : ℕ) → a + length us ≡ k → sets ws a (us ++ vs) ≡ sets (sets ws a us) k vs
sets_next ws a us vs k e = sym (sets_then ws a us vs) ∙ ap (λ i. sets (sets ws a us) i vs) e

-- the word at a place, among those from there on
pub word_here : (ws : List ℕ) (a : ℕ) → word_at ws a ≡ word_at (drop a ws) 0
word_here ws a = sym (get_or-drop a ws 0 0 ∙ ap (word_at ws) (add-zero a))

-- a word stored before others
sets_set : (ws : List ℕ) (b : ℕ) (vs : List ℕ) (c v : ℕ) → c < b → set (sets ws b vs) c v ≡ sets (set ws c v) b vs
sets_set ws b [] c v h = refl
sets_set ws b (u ∷ vs) c v h =
    sets_set (set ws b u) (suc b) vs c v (omega (arith, h))
    ∙ ap (λ l. sets l (suc b) vs) (set_comm ws b c u v (λ q. omega (arith, h, q)))

-- as many words stored again where the first ones were
sets_again : (ws : List ℕ) (b : ℕ) (us vs xs : List ℕ) → length us ≡ length vs → sets (sets ws b (us ++ xs)) b vs ≡ sets ws b (vs ++ xs)
sets_again ws b [] [] xs e = refl
sets_again ws b [] (v ∷ vs) xs e = absurd (omega (arith, e))
sets_again ws b (u ∷ us) [] xs e = absurd (omega (arith, e))
sets_again ws b (u ∷ us) (v ∷ vs) xs e =
    ap (λ l. sets l (suc b) vs)
    (sets_set (set ws b u) (suc b) (us ++ xs) b v (omega arith) ∙ ap (λ l. sets l (suc b) (us ++ xs)) (set-set ws b u v))
    ∙ sets_again (set ws b v) (suc b) us vs xs (omega (arith, e))

-- and in the middle
pub sets_over : (ws : List ℕ) (a : ℕ) (ts us vs xs : List ℕ) (k : ℕ) → a + length ts ≡ k → length us ≡ length vs →
    sets (sets ws a (ts ++ (us ++ xs))) k vs ≡ sets ws a (ts ++ (vs ++ xs))
sets_over ws a ts us vs xs k e q =
    ap (λ l. sets l k vs) (sets_next ws a ts (us ++ xs) k e) ∙ sets_again (sets ws a ts) k us vs xs q
    ∙ sym (sets_next ws a ts (vs ++ xs) k e)

-- and within those that were stored from the front
pub sets_within : (ws vs us : List ℕ) (a : ℕ) → a + length us ≤ length vs → sets (sets ws 0 vs) a us ≡ sets ws 0 (sets vs a us)
sets_within ws vs us a h =
    let m = length us in
    let old = take m (drop a vs) in
    let rest = drop (a + m) vs in
    let left : m ≤ length (drop a vs) = (let l = length-drop a vs in omega arith) in
    let split = ap (λ l. take a vs ++ (old ++ l)) (sym (drop-drop m a vs))
    ∙ ap (λ l. take a vs ++ l) (take-append-drop m (drop a vs)) ∙ take-append-drop a vs in
    let before : 0 + length (take a vs) ≡ a = (let l = length-take-le a vs (omega arith) in omega arith) in
    ap (λ l. sets (sets ws 0 l) a us) (sym split)
    ∙ sets_over ws 0 (take a vs) old us rest a before (length-take-le m (drop a vs) left)
    ∙ ap (sets ws 0) (sym (sets-eq us vs a h ∙ append_assoc (take a vs) us rest))

-- as many words as there are
pub sets_all : (ws vs : List ℕ) → length vs ≡ length ws → sets ws 0 vs ≡ vs
sets_all ws vs e =
    sets-eq vs ws 0 (omega (arith, e))
    ∙ ap (λ l. vs ++ l) (ap (λ k. drop k ws) (zero-add (length vs) ∙ e) ∙ drop-length ws) ∙ append-nil vs

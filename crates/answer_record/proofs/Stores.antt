-- Runs of stores: what a run leaves, one run after another, and a run in a part that was lent.
use Prim.Native.Nat.{ℕ, suc, ◌+◌, ◌-◌, ◌≤◌, ◌<◌}
use mathlib.Core.Path.{◌≡◌, refl, sym, ap, ◌∙◌}
use mathlib.Core.List.{List, [], ◌∷◌, ◌++◌, append-nil, append_assoc}
use mathlib.Core.Logic.{◌⊎◌, inl, inr, ⊎_elim}
use native.Mathlib.Nat.{add-suc, suc-add, add-zero, zero-add}
use native.Mathlib.Numerals.{add-one}
use native.Mathlib.Omega.{arith}
use lib.ListN.{length, get_or, take, drop, set, length-drop, drop_of_length-le, take-append-drop}
use Rattle.std.proofs.lemmas.List.{drop-drop, set_comm}
use lib.Seq.{sets, length-sets, sets-eq, get_or-set_other, take_all, length-take-le}
use Rattle.answer_record.specs.Bytes.{number_size, number_at, stored}

-- the code's at + k, as the steps of `sets`
pub add_two : (n : ℕ) → n + 2 ≡ suc (suc n)
add_two n = omega arith

pub add_three : (n : ℕ) → n + 3 ≡ suc (suc (suc n))
add_three n = omega arith

pub length_stored : (l vs : List ℕ) (i : ℕ) → length (stored l i vs) ≡ length l
unfolding stored
length_stored l vs i = length-sets l i vs

-- a run after another
pub sets_append : (vs ws l : List ℕ) (i : ℕ) → sets l i (vs ++ ws) ≡ sets (sets l i vs) (i + length vs) ws
sets_append [] ws l i = rw add-zero
sets_append (v ∷ vs) ws l i = rw (add-suc, ← suc-add) (sets_append vs ws (set l i v) (suc i))

pub stored_append : (l vs ws : List ℕ) (i : ℕ) → stored (stored l i vs) (i + length vs) ws ≡ stored l i (vs ++ ws)
unfolding stored
stored_append l vs ws i = sym (sets_append vs ws l i)

pub stored_then : (l vs ws : List ℕ) (at : ℕ) {m k : List ℕ} {next : ℕ} → m ≡ stored l at vs → next ≡ at + length vs → k ≡ stored m next ws
    → k ≡ stored l at (vs ++ ws)
stored_then l vs ws at e p f = rw (e, p) at f ∙ stored_append l vs ws at

-- two runs that share no place, in either order
set_past : (vs l : List ℕ) (i j x : ℕ) → (j < i) ⊎ (i + length vs ≤ j) → set (sets l i vs) j x ≡ sets (set l j x) i vs
set_past [] l i j x h = refl
set_past (v ∷ vs) l i j x (inl h) =
    set_past vs (set l i v) (suc i) j x (inl (omega arith)) ∙ ap (λ (m : List ℕ). sets m (suc i) vs) (set_comm l i j v x (λ (e : i ≡ j). omega arith))
set_past (v ∷ vs) l i j x (inr h) =
    set_past vs (set l i v) (suc i) j x (inr (omega arith)) ∙ ap (λ (m : List ℕ). sets m (suc i) vs) (set_comm l i j v x (λ (e : i ≡ j). omega arith))

sets_past_each_other : (ws vs l : List ℕ) (i j : ℕ) → (j + length ws ≤ i) ⊎ (i + length vs ≤ j) → sets (sets l i vs) j ws ≡ sets (sets l j ws) i vs
sets_past_each_other [] vs l i j h = refl
sets_past_each_other (w ∷ ws) vs l i j (inl h) =
    ap (λ (m : List ℕ). sets m (suc j) ws) (set_past vs l i j w (inl (omega arith))) ∙ sets_past_each_other ws vs (set l j w) i (suc j) (inl (omega arith))
sets_past_each_other (w ∷ ws) vs l i j (inr h) =
    ap (λ (m : List ℕ). sets m (suc j) ws) (set_past vs l i j w (inr h)) ∙ sets_past_each_other ws vs (set l j w) i (suc j) (inr (omega arith))

pub stored_apart : (l vs ws : List ℕ) (i j : ℕ) → (j + length ws ≤ i) ⊎ (i + length vs ≤ j) → stored (stored l i vs) j ws ≡ stored (stored l j ws) i vs
unfolding stored
stored_apart l vs ws i j h = sets_past_each_other ws vs l i j h

-- a run that lies within the list, in three parts
pub stored_parts : (l vs : List ℕ) (i : ℕ) → i + length vs ≤ length l → stored l i vs ≡ take i l ++ (vs ++ drop (i + length vs) l)
unfolding stored
stored_parts l vs i h = rw (← append_assoc) (sets-eq vs l i h)

-- the same as a copy into the part from i on leaves it
pub copied : (l vs : List ℕ) (i k : ℕ) {ws : List ℕ} → ws ≡ vs → k ≡ length vs → i + k ≤ length l → take i l ++ (ws ++ drop k (drop i l)) ≡ stored l i vs
copied l vs i k e n h = rw (e, n, drop-drop) (sym (stored_parts l vs i (omega arith)))

-- four stores, one behind the other
pub four_stored : (l : List ℕ) (i b0 b1 b2 b3 : ℕ) → set (set (set (set l i b0) (i + 1) b1) (i + 2) b2) (i + 3) b3 ≡ stored l i (b0 ∷ b1 ∷ b2 ∷ b3 ∷ [])
unfolding stored
four_stored l i b0 b1 b2 b3 = simp (add-one, add_two, add_three)

-- a run as long as the list
pub stored_whole : (l vs : List ℕ) → length vs ≡ length l → stored l 0 vs ≡ vs
unfolding stored
stored_whole l vs h =
    let none : drop (0 + length vs) l ≡ [] = drop_of_length-le l {i = 0 + length vs} (omega arith) in
    sets-eq vs l 0 (omega arith) ∙ rw (none, append-nil vs)

-- an element outside a run
get_d_sets : (vs l : List ℕ) (i j : ℕ) → (j < i) ⊎ (i + length vs ≤ j) → get_or (sets l i vs) j 0 ≡ get_or l j 0
get_d_sets [] l i j h = refl
get_d_sets (v ∷ vs) l i j (inl h) =
    get_d_sets vs (set l i v) (suc i) j (inl (omega arith)) ∙ get_or-set_other l i j v 0 (λ (e : j ≡ i). omega arith)
get_d_sets (v ∷ vs) l i j (inr h) =
    get_d_sets vs (set l i v) (suc i) j (inr (omega arith)) ∙ get_or-set_other l i j v 0 (λ (e : j ≡ i). omega arith)

pub byte_kept : (l vs : List ℕ) (i j : ℕ) → (j < i) ⊎ (i + length vs ≤ j) → get_or (stored l i vs) j 0 ≡ get_or l j 0
unfolding stored
byte_kept l vs i j h = get_d_sets vs l i j h

-- a number outside a run
pub number_kept : (l vs : List ℕ) (i at : ℕ) → (at + number_size ≤ i) ⊎ (i + length vs ≤ at) → number_at (stored l i vs) at ≡ number_at l at
unfolding number_at
number_kept l vs i at h =
    let out : (j : ℕ) → j < number_size → get_or (stored l i vs) (at + j) 0 ≡ get_or l (at + j) 0 =
    λ j k. byte_kept l vs i (at + j) (⊎_elim (λ (a : at + number_size ≤ i). inl (omega arith)) (λ (b : i + length vs ≤ at). inr (omega arith)) h) in
    let at0 : at + 0 ≡ at = omega arith in
    let out0 : get_or (stored l i vs) at 0 ≡ get_or l at 0 = rw at0 at (out 0 (omega arith)) in
    rw (out0, out 1 (omega arith), out 2 (omega arith), out 3 (omega arith))

-- a run past the first element, and past a first part
sets_cons : (x : ℕ) (l vs : List ℕ) (i : ℕ) → sets (x ∷ l) (suc i) vs ≡ x ∷ sets l i vs
sets_cons x l [] i = refl
sets_cons x l (v ∷ vs) i = sets_cons x (set l i v) vs (suc i)

sets_past : (xs ys vs : List ℕ) (j : ℕ) → sets (xs ++ ys) (length xs + j) vs ≡ xs ++ sets ys j vs
sets_past [] ys vs j = rw zero-add
sets_past (x ∷ xs) ys vs j =
    rw suc-add (sets_cons x (xs ++ ys) vs (length xs + j) ∙ ap (λ (l : List ℕ). x ∷ l) (sets_past xs ys vs j))

-- what was stored in a lent part that starts at a, said of the whole
pub part_back : (xs ys vs : List ℕ) (a j : ℕ) → a ≤ length xs → ys ≡ stored (take (length xs - a) (drop a xs)) j vs
    → take a xs ++ (ys ++ drop (length xs - a) (drop a xs)) ≡ stored xs (a + j) vs
unfolding stored
part_back xs ys vs a j h e =
    let rest : take (length xs - a) (drop a xs) ≡ drop a xs = take_all (length xs - a) (drop a xs) (rw length-drop (omega arith)) in
    let none : drop (length xs - a) (drop a xs) ≡ [] = drop_of_length-le (drop a xs) {i = length xs - a} (rw length-drop (omega arith)) in
    let past : sets (take a xs ++ drop a xs) (length (take a xs) + j) vs ≡ take a xs ++ sets (drop a xs) j vs =
    sets_past (take a xs) (drop a xs) vs j in
    let whole : sets xs (a + j) vs ≡ take a xs ++ sets (drop a xs) j vs = rw (take-append-drop, length-take-le a xs h) at past in
    let part : ys ≡ sets (drop a xs) j vs = rw rest at e in
    rw (none, append-nil, part) (sym whole)

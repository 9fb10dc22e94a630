-- A call that found no space goes back to the mark: words and counts are as they were, and segments granted on the way stay, empty.
use Rattle.std.proofs.Common.{◌≡◌, ℕ, suc, ◌<◌, ◌≤◌, min, List, [], ◌∷◌, ◌++◌, map, length, get_or, sym, refl, ap, ◌∙◌, ⊎_elim, arith}
use lib.ListN.{length-replicate}
use Rattle.std.proofs.lemmas.Bool.{cases_lt}
use Rattle.tree.specs.Words.{word}
use Rattle.table.specs.Segments.{Table, allocated_in, capacities, all_fresh}
use Rattle.table.specs.Meaning.{rolled_back}
use Rattle.arena.specs.Zeroed.{Rewound}
use Rattle.law.specs.Law.{State, memory, zero_segments}
use Rattle.law.proofs.Tables.{same_memory}
use Rattle.effects.specs.States.{Prepared, Sized}

-- ## Segments by their words

words_same : (a b : List ℕ) → length a ≡ length b → ((y : ℕ) → get_or a y 0 ≡ get_or b y 0) → a ≡ b
words_same [] [] e h = refl
words_same [] (y ∷ b) e h = absurd (omega arith)
words_same (x ∷ a) [] e h = absurd (omega arith)
words_same (x ∷ a) (y ∷ b) e h =
    let here : x ≡ y = h 0 in
    let rest : a ≡ b = words_same a b (omega arith) (λ k. h (suc k)) in
    cc

-- of the same sizes and the same words
pub segments_same : (m n : List (List ℕ)) → map length m ≡ map length n → ((x y : ℕ) → word m x y ≡ word n x y) → m ≡ n
unfolding word
segments_same [] [] e h = refl
segments_same [] (b ∷ n) e h = let z : ◌≡◌ {A = ℕ} 0 1 = cc in absurd (omega arith)
segments_same (a ∷ m) [] e h = let z : ◌≡◌ {A = ℕ} 0 1 = cc in absurd (omega arith)
segments_same (a ∷ m) (b ∷ n) e h =
    let size : length a ≡ length b = cc in
    let sizes : map length m ≡ map length n = cc in
    let here : a ≡ b = words_same a b size (h 0) in
    let rest : m ≡ n = segments_same m n sizes (λ x. h (suc x)) in
    cc

zero_sizes : (cs : List ℕ) → map length (zero_segments cs) ≡ cs
zero_sizes [] = refl
zero_sizes (c ∷ cs) = let e = length-replicate {A = ℕ} c 0 in let f = zero_sizes cs in cc

map_append : (m n : List (List ℕ)) → map length (m ++ n) ≡ map length m ++ map length n
map_append [] n = refl
map_append (s ∷ m) n = ap (λ (l : List ℕ). length s ∷ l) (map_append m n)

-- ## The table

-- none is allocated beyond its capacity
abbrev pub Filled : Table → Type 0
Filled t = (g : ℕ) → allocated_in t g ≤ get_or (capacities t) g 0

all_rolled : (t : Table) (met : List ℕ) → capacities t ≡ met → rolled_back t [] ≡ all_fresh met
all_rolled [] [] e = refl
all_rolled [] (c ∷ cs) e = let z : ◌≡◌ {A = ℕ} 0 1 = cc in absurd (omega arith)
all_rolled (s ∷ t) [] e = let z : ◌≡◌ {A = ℕ} 0 1 = cc in absurd (omega arith)
all_rolled (s ∷ t) (c ∷ cs) e =
    let a : s.capacity ≡ c = cc in
    let b : capacities t ≡ cs = cc in
    let r = all_rolled t cs b in
    rw (a, r)

pub table_back : (t mark : Table) (met : List ℕ) → capacities t ≡ capacities mark ++ met → Filled mark → rolled_back t mark ≡ mark ++ all_fresh met
table_back t [] met e f = all_rolled t met e
table_back [] (k ∷ mark) met e f = let z : ◌≡◌ {A = ℕ} 0 1 = cc in absurd (omega arith)
table_back (s ∷ t) (k ∷ mark) met e f =
    let a : s.capacity ≡ k.capacity = cc in
    let b : capacities t ≡ capacities mark ++ met = cc in
    let n : min k.allocated k.capacity ≡ k.allocated = omega (arith, f 0) in
    let r = table_back t mark met b (λ g. f (suc g)) in
    rw (a, n, r)

-- ## The words

-- mark is the state at the start, s the one that is left, and n the segments after going back
pub words_back : (mark s : State) (n : List (List ℕ)) (met : List ℕ) → Sized mark → ((x y : ℕ) → allocated_in mark.table x ≤ y → memory mark x y ≡ 0) →
    Prepared mark s → capacities s.table ≡ capacities mark.table ++ met → Rewound s.source.segments n s.table mark.table → map length n ≡ map length s.source.segments →
    n ≡ mark.source.segments ++ zero_segments met
unfolding word
words_back mark s n met sized zeros p caps r sizes =
    segments_same n (mark.source.segments ++ zero_segments met)
    (sizes ∙ (p.sized ∙ (caps ∙ (ap (λ (l : List ℕ). l ++ met) (sym sized) ∙
    (ap (λ (l : List ℕ). map length mark.source.segments ++ l) (sym (zero_sizes met)) ∙ sym (map_append mark.source.segments (zero_segments met)))))))
    (λ x y. at x y ∙ sym (ap (λ (f : ℕ → ℕ → ℕ). f x y) (same_memory mark.source.segments met)))
  where
    at : (x y : ℕ) → get_or (get_or n x []) y 0 ≡ word mark.source.segments x y
    at x y =
        ⊎_elim
        (λ (h : y < allocated_in mark.table x). r.elsewhere x y (λ a b. absurd (omega arith)) ∙ p.kept x y h)
        (λ (h : allocated_in mark.table x ≤ y).
        ⊎_elim
        (λ (k : y < allocated_in s.table x). r.since x y h k ∙ sym (zeros x y h))
        (λ (k : allocated_in s.table x ≤ y). r.elsewhere x y (λ a b. absurd (omega arith)) ∙ (p.clean x y k ∙ sym (zeros x y h)))
        (cases_lt y (allocated_in s.table x)))
        (cases_lt y (allocated_in mark.table x))

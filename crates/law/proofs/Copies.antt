-- Numbers written in a loop over rows and places, each to a word of its own.
use Rattle.std.proofs.Common.{◌≡◌, ℕ, zero, suc, ◌<◌, refl, ◌∙◌, ⊎_elim, arith}
use Rattle.std.proofs.lemmas.Bool.{cases_eq}
use Rattle.tree.specs.Value.{change}
use Rattle.tree.specs.Shows.{Memory}
use Rattle.tree.proofs.Context.{change_here, change_else}
use Rattle.law.specs.Exact.{loop}

-- one row
abbrev pub row_written : (s m : ℕ) → (at val : ℕ → ℕ) → Memory → Memory
row_written s m at val = loop m (λ k N. change N s (at k) (val k))

abbrev pub all_written : (s n m : ℕ) → (at val : ℕ → ℕ → ℕ) → Memory → Memory
all_written s n m at val = loop n (λ i. row_written s m (at i) (val i))

row_else : (s m : ℕ) (at val : ℕ → ℕ) (N : Memory) (x y : ℕ) → ((k : ℕ) → k < m → x ≡ s → y ≡ at k → ⊥) → row_written s m at val N x y ≡ N x y
row_else s zero at val N x y h = refl
row_else s (suc m) at val N x y h =
    change_else (row_written s m at val N) s (at m) (val m) x y (h m (omega arith)) ∙ row_else s m at val N x y (λ k l. h k (omega arith))

row_here : (s m : ℕ) (at val : ℕ → ℕ) (N : Memory) (k : ℕ) → k < m → ((i j : ℕ) → i < m → j < m → at i ≡ at j → i ≡ j) →
    row_written s m at val N s (at k) ≡ val k
row_here s zero at val N k h inj = absurd (omega arith)
row_here s (suc m) at val N k h inj =
    ⊎_elim
    (λ (e : k ≡ m). rw e (change_here (row_written s m at val N) s (at m) (val m)))
    (λ (n : k ≡ m → ⊥).
    change_else (row_written s m at val N) s (at m) (val m) s (at k) (λ _ e. n (inj k m h (omega arith) e)) ∙
    row_here s m at val N k (omega arith) (λ i j hi hj. inj i j (omega arith) (omega arith)))
    (cases_eq k m)

pub all_else : (s n m : ℕ) (at val : ℕ → ℕ → ℕ) (N : Memory) (x y : ℕ) → ((i k : ℕ) → i < n → k < m → x ≡ s → y ≡ at i k → ⊥) →
    all_written s n m at val N x y ≡ N x y
all_else s zero m at val N x y h = refl
all_else s (suc n) m at val N x y h =
    row_else s m (at n) (val n) (all_written s n m at val N) x y (λ k l. h n k (omega arith) l) ∙
    all_else s n m at val N x y (λ i k l. h i k (omega arith))

pub all_here : (s n m : ℕ) (at val : ℕ → ℕ → ℕ) (N : Memory) (i k : ℕ) → i < n → k < m →
    ((a b c d : ℕ) → a < n → b < m → c < n → d < m → at a b ≡ at c d → (a ≡ c) × (b ≡ d)) → all_written s n m at val N s (at i k) ≡ val i k
all_here s zero m at val N i k hi hk inj = absurd (omega arith)
all_here s (suc n) m at val N i k hi hk inj =
    ⊎_elim
    (λ (e : i ≡ n). rw e (row_here s m (at n) (val n) (all_written s n m at val N) k hk (λ b d hb hd q. (inj n b n d (omega arith) hb (omega arith) hd q).1)))
    (λ (o : i ≡ n → ⊥).
    row_else s m (at n) (val n) (all_written s n m at val N) s (at i k) (λ d hd _ e. o (inj i k n d hi hk (omega arith) hd e).0) ∙
    all_here s n m at val N i k (omega arith) hk (λ a b c d ha hb hc hd. inj a b c d (omega arith) hb (omega arith) hd))
    (cases_eq i n)

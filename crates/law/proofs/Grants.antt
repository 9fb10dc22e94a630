-- Chains of grants, put together.
use Rattle.std.proofs.Common.{◌≡◌, ℕ, List, [], ◌∷◌, ◌++◌, sym, ap, ◌∙◌}
use Rattle.law.specs.Law.{Source, Meaning, lengths, Granted}

-- from a source that offers the same
granted_from : {X : Type 0} (S : Source X) (a b c : Meaning) (ns ds : List ℕ) → lengths b ≡ lengths a → b.offers ≡ a.offers → b.first_offers ≡ a.first_offers →
    Granted S b ns ds c → Granted S a ns ds c
granted_from S a b c [] [] e o f h = (h.0 ∙ e, h.1 ∙ o, h.2 ∙ f)
granted_from S a b c [] (d ∷ ds) e o f h = absurd h
granted_from S a b c (n ∷ ns) [] e o f h = absurd h
granted_from S a b c (n ∷ ns) (d ∷ ds) e o f h = (
  sym (ap (λ z. z n) o) ∙ h.0,
  (h.1.0, h.1.1 ∙ ap (λ z. z ++ (d ∷ [])) e, h.1.2, h.1.3 ∙ f, h.1.4),
)

pub granted_join : {X : Type 0} (S : Source X) (a b c : Meaning) (ms ns cs ds : List ℕ) → Granted S a ms cs b → Granted S b ns ds c →
    Granted S a (ms ++ ns) (cs ++ ds) c
granted_join S a b c [] ns [] ds g h = granted_from S a b c ns ds g.0 g.1 g.2 h
granted_join S a b c [] ns (x ∷ cs) ds g h = absurd g
granted_join S a b c (m ∷ ms) ns [] ds g h = absurd g
granted_join S a b c (m ∷ ms) ns (x ∷ cs) ds g h =
    (g.0, (g.1.0, g.1.1, g.1.2, g.1.3, granted_join S (S g.1.0) b c ms ns cs ds g.1.4 h))

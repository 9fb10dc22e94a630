-- One event: the newest object was taken away, and is put back behind its next pointer if it has one.
use Rattle.std.proofs.Common.{◌≡◌, ◌<◌, ◌≤◌, Bool, true, false, cond, ltb, List, ◌∷◌, length, sym, ap, ◌∙◌, arith}
use Rattle.std.proofs.lemmas.Bool.{cond-true, lt-ltb, ltb-true, ltb-false}
use Rattle.tree.specs.Value.{rows}
use Rattle.tree.specs.Shows.{Memory}
use Rattle.cursor.specs.Begun.{Begun, passed}
use Rattle.cursor.specs.Weight.{left, weight}
use Rattle.cursor.specs.Steps.{pointed, Null, Entered, TooDeep, Left, Begins}
use Rattle.cursor.proofs.Weights.{falls_left, falls_passed, falls_entered}

module _ (bs os : List Begun) (b : Begun) (popped : bs ≡ b ∷ os) (t : Bool) (asked : t ≡ ltb b.row (rows b.shape)) where
  pub ends : t ≡ false → Left b bs os × (weight os < weight bs)
  ends e = (record { before = popped; done = ltb-false b.row (rows b.shape) (sym asked ∙ e) }, falls_left bs os b popped)

  module _ (H : Memory) (more : t ≡ true) (few : length bs ≤ 64) (p : Begun) (passes : p ≡ passed b) (less : left p < left b)
      (r : Bool) (ps : List Begun) (room : r ≡ ltb (length os) 64) (pushed : ps ≡ cond r (p ∷ os) os) where
    comes : b.row < rows b.shape
    comes = ltb-true b.row (rows b.shape) (sym asked ∙ more)

    back : ps ≡ p ∷ os
    back =
        let l : length os < 64 = let k = ap length popped in omega arith in
        pushed ∙ cond-true r (p ∷ os) os (room ∙ lt-ltb (length os) 64 l)

    as_many : length ps ≡ length bs
    as_many = ap length back ∙ sym (ap length popped)

    after_is : ps ≡ passed b ∷ os
    after_is = back ∙ ap (λ (x : Begun). x ∷ os) passes

    lighter : weight ps < weight bs
    lighter = falls_passed bs os b popped ps p back less

    pub meets_null : pointed H b ≡ 0 → Null H bs ps × (weight ps < weight bs)
    meets_null z = (record { newest = b; others = os; before = popped; more = comes; null = z; after = after_is }, lighter)

    module _ (new : Begun) (begins : Begins H b new) (qs : List Begun) where
      pub enters : true ≡ ltb (length ps) 64 → qs ≡ new ∷ ps → Entered H new bs qs × (weight qs < weight bs)
      enters t e =
          let k : length bs < 64 = let l = ltb-true (length ps) 64 (sym t) in let m = as_many in omega arith in (
            record {
              newest = b;
              others = os;
              before = popped;
              more = comes;
              live = begins.live;
              few = k;
              begins = begins.begins;
              after = e ∙ ap (λ (x : List Begun). new ∷ x) after_is;
            },
            falls_entered bs os b popped qs p new (e ∙ ap (λ (x : List Begun). new ∷ x) back) less begins.light k,
          )

      pub too_deep : false ≡ ltb (length ps) 64 → qs ≡ ps → TooDeep H bs qs × (weight qs < weight bs)
      too_deep t e =
          let k : length bs ≡ 64 = let l = ltb-false (length ps) 64 (sym t) in let m = as_many in omega arith in (
            record { newest = b; others = os; before = popped; more = comes; live = begins.live; full = k; after = e ∙ after_is },
            falls_passed bs os b popped qs p (e ∙ back) less,
          )

-- From the law of one call to runs, whatever the calls are.
use Rattle.std.proofs.Common.{◌≡◌, ℕ, List, [], ◌∷◌, refl, arith}
use Rattle.law.specs.Runs.{Machine, Play, Event, Run, last, Fed, feed, tree, answers, calls, replies, Follows, FollowsAlong, FedAlike}

module _ {m : Machine} (p : Play m) (Holds : p.State → m.Tree → Type 0) (f : Follows p Holds) where
  run_ends : (s : p.State) (v : m.Tree) (es : List (Event p)) → Holds s v → Run p s v es → Holds (last p s es) (tree m v (feed p es))
  run_ends s v [] h r = h
  run_ends s v (e ∷ es) h r = run_ends e.after _ es (f.holds_after s v e.call e.reply e.after r.0) r.1

  run_answers : (s : p.State) (v : m.Tree) (es : List (Event p)) → Run p s v es → replies p es ≡ answers m v (feed p es)
  run_answers s v [] r = refl
  run_answers s v (e ∷ es) r = cc (f.answer_is s v e.call e.reply e.after r.0, run_answers e.after _ es r.1)

  pub follows_along : FollowsAlong p Holds
  follows_along = record { ends = run_ends; told_so = run_answers }

fed_call : (m : Machine) (c d : m.Call) (a b : ℕ) (xs ys : List (Fed m)) → c ≡ d → a ≡ 0 → b ≡ 0 → xs ≡ ys →
    ◌≡◌ {A = List (Fed m)} (record { call = c; ruling = a } ∷ xs) (record { call = d; ruling = b } ∷ ys)
fed_call m c d a b xs ys e q r t = rw (e, q, r, t)

pub fed_alike : {m : Machine} (p q : Play m) → FedAlike p q
fed_alike p q [] [] e n k = refl
fed_alike p q [] (b ∷ fs) e n k = let z : ◌≡◌ {A = ℕ} 0 1 = cc in absurd (omega arith)
fed_alike p q (a ∷ es) [] e n k = let z : ◌≡◌ {A = ℕ} 0 1 = cc in absurd (omega arith)
fed_alike {m} p q (a ∷ es) (b ∷ fs) e n k =
    let first : a.call ≡ b.call = cc in
    let rest : calls p es ≡ calls q fs = cc in
    fed_call m a.call b.call _ _ (feed p es) (feed q fs) first n.0 k.0 (fed_alike p q es fs rest n.1 k.1)

-- Which mark of a line comes first, a `#` or a quote.
use Rattle.std.proofs.Common.{◌≡◌, ℕ, zero, suc, ◌<◌, Bool, true, false, List, [], ◌∷◌, ◌++◌, length, get_or, sym, ◌∙◌, subst, inl, inr, append-nil, arith}
use Rattle.text.specs.Lines.{Lacks, Uncommented}

rest_lacks : (c x : ℕ) (xs : List ℕ) → Lacks c (x ∷ xs) → Lacks c xs
rest_lacks c x xs h i l e = h (suc i) (omega arith) e

first_lacks : (c x : ℕ) (xs : List ℕ) → Lacks c (x ∷ xs) → x ≡ c → ⊥
first_lacks c x xs h e = h 0 (omega arith) e

lacks_cons : (c x : ℕ) (xs : List ℕ) → (x ≡ c → ⊥) → Lacks c xs → Lacks c (x ∷ xs)
lacks_cons c x xs h l zero b e = h e
lacks_cons c x xs h l (suc i) b e = l i (omega arith) e

lacks_nil : (c : ℕ) → Lacks c []
lacks_nil c i l e = omega arith

front_lacks : (c : ℕ) (xs ys : List ℕ) → Lacks c (xs ++ ys) → Lacks c xs
front_lacks c [] ys h = lacks_nil c
front_lacks c (x ∷ xs) ys h = lacks_cons c x xs (first_lacks c x (xs ++ ys) h) (front_lacks c xs ys (rest_lacks c x (xs ++ ys) h))

-- h has a d, head has none, and both begin one text: so head ends before h, and lacks what h lacks
earlier : (c d : ℕ) (h head r s : List ℕ) → Lacks c h → Lacks d head → (k : ℕ) → k < length h → get_or h k 0 ≡ d → h ++ r ≡ head ++ s → Lacks c head
earlier c d h [] r s l m k b f e = lacks_nil c
earlier c d [] (x ∷ head) r s l m k b f e = absurd (omega arith)
earlier c d (y ∷ h) (x ∷ head) r s l m zero b f e =
    let same : y ≡ x = cc in
    absurd (first_lacks d x head m (sym same ∙ f))
earlier c d (y ∷ h) (x ∷ head) r s l m (suc k) b f e =
    let same : y ≡ x = cc in
    let more : h ++ r ≡ head ++ s = cc in
    lacks_cons c x head (λ g. first_lacks c y h l (same ∙ g)) (earlier c d h head r s (rest_lacks c y h l) (rest_lacks d x head m) k (omega arith) f more)

-- the line goes on behind head
tail : (line head : List ℕ) → Uncommented line head → (s : List ℕ) × (line ≡ head ++ s)
tail line head (l, inl e) = ([], e ∙ sym (append-nil head))
tail line head (l, inr (note, e)) = (35 ∷ note, e)

pub no_quote : (line head : List ℕ) → Lacks 34 line → Uncommented line head → Lacks 34 head
no_quote line head l u = let p = tail line head u in front_lacks 34 head p.0 (subst (Lacks 34) p.1 l)

pub quote_in_comment : (line h rest head : List ℕ) → line ≡ h ++ (34 ∷ rest) → Lacks 34 h → (k : ℕ) × (k < length h) × (get_or h k 0 ≡ 35) → Uncommented line head → Lacks 34 head
quote_in_comment line h rest head e l (k, b, f) u =
    let p = tail line head u in
    earlier 34 35 h head (34 ∷ rest) p.0 l u.0 k b f (sym e ∙ p.1)

-- `contains` answered no
pub lacks_from : (c : ℕ) (bs : List ℕ) (r : Bool) → r ≡ false → ((k : ℕ) → k < length bs → get_or bs k 0 ≡ c → r ≡ true) → Lacks c bs
lacks_from c bs r e f i l g = let z : false ≡ true = sym e ∙ f i l g in grind arith

-- What a slot holds, on any words whatever.
use Rattle.std.specs.Prelude.{◌≡◌, ℕ, ◌≢◌, Some, None, Option}
use Rattle.tree.specs.Shows.{Memory, land}
use Rattle.tree.specs.Decode.{shape_at}
use Rattle.walk.specs.Landings.{landing_of}
use Rattle.walk.specs.Shapes.{shape_meant}
use Rattle.walk.specs.declared.held.Held.{Held}

-- the slot (g, w) of words that are not null leads to this object
pub record Leads (H : Memory) (g w : ℕ) (h : Held) : Type 0 where
  pub live : H g w ≢ 0
  pub lands : landing_of h.landing ≡ land H g w
  pub shaped : shape_meant h.shape ≡ shape_at H (land H g w)

abbrev pub Holds : Memory → (g w : ℕ) → Option Held → Type 0
Holds H g w None = H g w ≡ 0
Holds H g w (Some h) = Leads H g w h

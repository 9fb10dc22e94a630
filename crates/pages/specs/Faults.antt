-- Why the page source refuses a grant.
use Rattle.std.specs.Prelude.{ℕ, ◌-◌}
use Rattle.pages.specs.declared.PageFault.{PageFault}

-- how many of the eight pages are left
abbrev pub page_fault : ℕ → PageFault
page_fault used = record { left = 8 - used }

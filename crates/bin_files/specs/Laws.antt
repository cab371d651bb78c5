-- Points and their texts: each tells the other.
use Rattle.std.specs.Prelude.{◌≡◌, ℕ, ◌<◌, List, None}
use Rattle.std.specs.List.{AllByRecursion}
use Rattle.ann_defs.specs.declared.kinds.Element.{Element}
use Rattle.ann_defs.specs.Distance.{PointSet}
use Rattle.bin_files.specs.Points.{text, verdict, points_of}
use Rattle.bin_files.specs.Rows.{ArePoints}

-- the text of points within the limits breaks no rule, and is read as those points
abbrev pub TextIsSound : Type 0
TextIsSound = (X : PointSet) → ArePoints X.vectors → (verdict (text X) ≡ None) × (points_of X.element (text X) ≡ X)

-- bytes that break no rule are the text of points within the limits, of either element
abbrev pub SoundIsText : Type 0
SoundIsText = (element : Element) (file : List ℕ) → AllByRecursion (λ b. b < 256) file → verdict file ≡ None
    → ArePoints (points_of element file).vectors × (file ≡ text (points_of element file))

-- points of one element that differ have texts that differ
abbrev pub TextsDiffer : Type 0
TextsDiffer = (X Y : PointSet) → ArePoints X.vectors → ArePoints Y.vectors → X.element ≡ Y.element → text X ≡ text Y → X ≡ Y

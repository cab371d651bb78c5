-- What a step of the reader gives, and what its window shows.
use Rattle.std.specs.Prelude.{◌≡◌, ℕ, ◌≤◌, ◌<◌, Bool, true, List, length, take, drop, Result, Ok, Err, slice_index}
use Rattle.graph_files.specs.declared.fault.IndexFault.{IndexFault}
use Rattle.graph_files.specs.declared.fault.IndexFault.TheVariants.{Read, Malformed, TooLarge, NoMemory}
use Rattle.graph_files.specs.declared.window.Window.{Window}
use Rattle.ann_shelf.specs.declared.slip.Slip.{Slip}
use Rattle.ann_shelf.specs.declared.slip.Slip.TheVariants.{Failed, NoMemory as NoShelfMemory}

-- the fault that a refusal of the shelf is
abbrev pub fault_of : Slip → IndexFault
fault_of Failed = Read
fault_of NoShelfMemory = NoMemory

-- the fault is that of the step, or a failed read or want of memory
abbrev pub Fails : {Y : Type 0} → IndexFault → Result Y IndexFault → Type 0
Fails Read step = Unit {0}
Fails (Malformed place rule) step = step ≡ Err (Malformed place rule)
Fails (TooLarge name value limit) step = step ≡ Err (TooLarge name value limit)
Fails NoMemory step = Unit {0}

-- what was returned, seen by view, is what the step gives; a failed read and want of memory may stand in its place
abbrev pub Gives : {X Y : Type 0} → (X → Y) → Result X IndexFault → Result Y IndexFault → Type 0
Gives view (Ok x) step = step ≡ Ok (view x)
Gives view (Err fault) step = Fails fault step

-- the window holds bytes of the file, from its place on
pub record Shows (file : List ℕ) (w : Window) : Type 0 where
  pub same : take w.len w.bytes ≡ take w.len (drop w.from file)
  pub within : w.len ≤ length (drop w.from file)

-- the file's numbers from one place to another are bytes
abbrev pub AreBytesIn : List ℕ → ℕ → ℕ → Type 0
AreBytesIn file from to = (i : ℕ) → from ≤ i → i < to → slice_index file i < 256

-- so many ids of a layer, which ascend and are in the layer below
pub record AreMembers (below : ℕ → Bool) (n : ℕ) (ids : List ℕ) : Type 0 where
  pub ascend : (j k : ℕ) → j < k → k < n → slice_index ids j < slice_index ids k
  pub inside : (k : ℕ) → k < n → below (slice_index ids k) ≡ true

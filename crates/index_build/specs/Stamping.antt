-- What an index says of its build: the settings that decide it, and the digest of its points.
use Rattle.std.specs.Prelude.{ℕ, ◌==◌, if◌then◌else◌, Option, Some, None, length}
use Rattle.ann_defs.specs.Distance.{PointSet}
use Rattle.ann_defs.specs.BatchInsert.{cap_of}
use Rattle.ann_defs.specs.declared.kinds.Element.{Element}
use Rattle.ann_defs.specs.declared.kinds.Element.TheVariants.{U8, I8}
use Rattle.ann_defs.specs.declared.kinds.Kind.{Kind}
use Rattle.ann_defs.specs.declared.kinds.Kind.TheVariants.{Vamana, Hnsw, Nnd}
use Rattle.ann_defs.specs.declared.kinds.OrderKind.{OrderKind}
use Rattle.ann_defs.specs.declared.kinds.OrderKind.TheVariants.{File, Seeded}
use Rattle.ann_defs.specs.declared.kinds.StartKind.{StartKind}
use Rattle.ann_defs.specs.declared.kinds.StartKind.TheVariants.{First, Medoid}
use Rattle.bin_files.specs.Points.{text}
use Rattle.sha2.specs.Sha256.{sha256}
use Rattle.graph_rows.specs.declared.stamp.Stamp.{Stamp}
use Rattle.command_options.specs.declared.settings.Settings.{Settings}

-- the numbers that stand for choices
abbrev pub element_code : Element → ℕ
element_code U8 = 1
element_code I8 = 2

abbrev pub order_code : OrderKind → ℕ
order_code File = 1
order_code Seeded = 2

abbrev pub start_code : StartKind → ℕ
start_code First = 1
start_code Medoid = 2

-- the cap that a build goes by: the one that is set, or the default
abbrev pub used_cap : PointSet → Settings → ℕ
used_cap X o = cap_of (length X.vectors) o.cap

-- what each kind records: element, seed and digest, and 0 for all that only some kinds have
abbrev pub shared_stamp : PointSet → Settings → Stamp
shared_stamp X o = record {
  element = element_code X.element;
  order = 0;
  start_kind = 0;
  beam = 0;
  num = 0;
  den = 0;
  cap = 0;
  bits = 0;
  max_level = 0;
  list = 0;
  trees = 0;
  leaf = 0;
  rounds = 0;
  passes = 0;
  seed = o.seed;
  floor = 0;
  digest = sha256 (text X);
}

-- and what is recorded of the settings of a kind
abbrev pub stamp_by : Kind → PointSet → Settings → Stamp
stamp_by Vamana X o =
    record (shared_stamp X o) { order = order_code o.order; start_kind = start_code o.start; beam = o.beam; num = o.num; den = o.den; cap = used_cap X o; passes = o.passes }
stamp_by Hnsw X o = record (shared_stamp X o) { order = order_code o.order; beam = o.beam; cap = used_cap X o; bits = o.bits; max_level = o.max_level }
stamp_by Nnd X o =
    record (shared_stamp X o) { start_kind = start_code o.start; num = o.num; den = o.den; list = o.list; trees = o.trees; leaf = o.leaf; rounds = o.rounds; floor = o.floor }

-- the stamp of a build of a point set with these settings
unfoldable pub stamp_of : PointSet → Settings → Stamp
stamp_of X o = stamp_by o.kind X o

-- the stamp of its index: none where the format is 1
abbrev pub stamp_for : PointSet → Settings → Option Stamp
stamp_for X o = if o.format == 1 then None else Some (stamp_of X o)

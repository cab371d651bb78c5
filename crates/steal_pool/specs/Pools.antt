-- The pools.
use Rattle.ann_defs.specs.declared.kinds.Way.TheVariants.{Serial, Shares, Stealing}
use Rattle.ann_defs.specs.declared.kinds.Way.{Way}
use Rattle.std.specs.Prelude.{ℕ}
use Rattle.steal_pool.specs.declared.pool.Pool.{Pool}
use Rattle.steal_pool.specs.declared.rayon_rounds.RayonRounds.{RayonRounds}
use Rattle.steal_pool.specs.declared.steal_rounds.StealRounds.{StealRounds}

-- how many workers the pool has
abbrev pub rayon_workers : RayonRounds → ℕ
rayon_workers p = p.workers

abbrev pub steal_workers : StealRounds → ℕ
steal_workers p = p.workers

abbrev pub pool_workers : Pool → ℕ
pool_workers p = p.workers

-- how many workers a pool of this way has where so many are asked for
abbrev pub workers_for : Way → ℕ → ℕ
workers_for Serial workers = 1
workers_for Shares workers = workers
workers_for Stealing workers = workers

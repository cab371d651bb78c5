use Rattle.std.proofs.Common.{◌≡◌, ◌<◌, ◌≤◌, ℕ, false, IsTrue, length, take, vec_capacity, slice_index_or}
use Rattle.steal_table.specs.Opened.{AreOwners}
use Rattle.std.specs.Mem.Slots.{slots_items, slots_filled, slots_len}
use Rattle.steal_table.proofs.close.empty_out.Given as goal

abbrev pub invariant-loop-task : goal.invariant-loop-task
invariant-loop-task l = record {
  words : l.closed.words ≡ l.fn.closed.words;
  items : slots_items l.closed.slots ≡ slots_items l.fn.closed.slots;
  len : slots_len l.closed.slots ≡ l.tasks;
  gone : (k : ℕ) → k < l.task → slice_index_or (slots_filled l.closed.slots) k false ≡ false;
  left : (k : ℕ) → l.task ≤ k → k < l.tasks → IsTrue (slice_index_or (slots_filled l.closed.slots) k false);
  blocks : l.blocks.items ≡ take l.task (slots_items l.fn.closed.slots);
  owners : AreOwners (slots_items l.fn.closed.words) l.owners.items;
  done : length l.owners.items ≡ l.task;
  block_room : l.tasks ≤ vec_capacity l.blocks;
  owner_room : l.tasks ≤ vec_capacity l.owners;
}

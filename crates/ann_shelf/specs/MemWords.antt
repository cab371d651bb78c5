-- What clauses say of the shelves and of the output in memory.
use Rattle.std.specs.Prelude.{◌≡◌, ◌⊎◌, ℕ, List, true, false, Option, Some, None, IsSome}
use Rattle.std.specs.FinMap.{get}
use Rattle.ann_shelf.specs.declared.mem_shelf.MemShelf.{MemShelf}
use Rattle.ann_shelf.specs.declared.mem_out.MemOut.{MemOut}
use Rattle.ann_shelf.specs.declared.sound_shelf.SoundShelf.{SoundShelf}
use Rattle.ann_shelf.specs.Files.{Files}
use Rattle.ann_shelf.specs.Shown.{Shown}
use Rattle.ann_shelf.specs.Written.{Got}
use Rattle.ann_shelf.specs.NamedFiles.{files_of}
use Rattle.ann_shelf.specs.Calls.{Calls, next_fails, one_more}
use Rattle.ann_shelf.specs.Faults.{next_count}

-- the files that a shelf in memory holds
abbrev pub shelf_files : MemShelf → Files
shelf_files s = files_of s.files.items

-- the files that are begun and aren't finished
abbrev pub shelf_begun : MemShelf → Files
shelf_begun s = files_of s.begun.items

-- the calls of the trait
abbrev pub shelf_calls : MemShelf → Calls
shelf_calls s = s.calls

-- the most bytes that one of them moves, where that is set
abbrev pub shelf_piece : MemShelf → Option ℕ
shelf_piece s = s.piece

-- how many reads failed, of all names together
abbrev pub shelf_read_faults : MemShelf → ℕ
shelf_read_faults s = s.read_faults

-- how many begins, appends and finishes failed, of all names together
abbrev pub shelf_write_faults : MemShelf → ℕ
shelf_write_faults s = s.write_faults

-- what a shelf in memory shows
abbrev pub shelf_shown : MemShelf → Shown
shelf_shown s = record {
  held = Some (shelf_files s);
  begun = Some (shelf_begun s);
  read_faults = λ _. shelf_read_faults s;
  write_faults = λ _. shelf_write_faults s;
}

-- an append or finish fails exactly where its number is set or its file isn't begun; `ok` and `failed` say how it ended
pub record FailsAsSet (s : MemShelf) (name : List ℕ) (ok failed : Type 0) : Type 0 where
  pub answered : ok → (next_fails (shelf_calls s) ≡ false) × IsSome (get (shelf_begun s) name)
  pub set : next_fails (shelf_calls s) ≡ true → failed
  pub missing : get (shelf_begun s) name ≡ None → failed
  pub refused : failed → (next_fails (shelf_calls s) ≡ true) ⊎ (get (shelf_begun s) name ≡ None)

-- a begin, append or finish counts as one call, and as a failed write exactly where it failed; how much a call moves stays
pub record WriteCounts (old new : MemShelf) (ok failed no_memory : Type 0) : Type 0 where
  pub calls : shelf_calls new ≡ one_more (shelf_calls old)
  pub counted : failed → shelf_write_faults new ≡ next_count (shelf_write_faults old)
  pub uncounted : ok → shelf_write_faults new ≡ shelf_write_faults old
  pub no_memory_uncounted : no_memory → shelf_write_faults new ≡ shelf_write_faults old
  pub reads : shelf_read_faults new ≡ shelf_read_faults old
  pub piece : shelf_piece new ≡ shelf_piece old

-- the files that a shelf that never fails holds
abbrev pub sound_files : SoundShelf → Files
sound_files s = files_of s.files.items

-- its files that are begun and aren't finished
abbrev pub sound_begun : SoundShelf → Files
sound_begun s = files_of s.begun.items

-- what a shelf that never fails shows
abbrev pub sound_shown : SoundShelf → Shown
sound_shown s = record {
  held = Some (sound_files s);
  begun = Some (sound_begun s);
  read_faults = λ _. 0;
  write_faults = λ _. 0;
}

-- the bytes that an output in memory got
abbrev pub out_bytes : MemOut → List ℕ
out_bytes o = o.bytes.items

-- the writes
abbrev pub out_calls : MemOut → Calls
out_calls o = o.calls

-- the most bytes that one of them takes, where that is set
abbrev pub out_piece : MemOut → Option ℕ
out_piece o = o.piece

-- how many writes failed
abbrev pub out_faults : MemOut → ℕ
out_faults o = o.faults

-- how many writes wanted memory
abbrev pub out_wants : MemOut → ℕ
out_wants o = o.wants

-- what an output in memory got
abbrev pub out_got : MemOut → Got
out_got o = record {
  written = Some (out_bytes o);
  faults = out_faults o;
  wants = out_wants o;
}

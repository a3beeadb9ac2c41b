-- What room the workers of threads need as they are taken apart. (This project's own.)
use Rattle.std.specs.Prelude.{◌≡◌, ℕ, ◌+◌, ◌≤◌, [], vec_len, vec_capacity}
use Rattle.sdl_run_settling.specs.declared.rejoining.RejoiningRoom.{RejoiningRoom}

-- there is room for so many blocks and forwarders, and the environment, as they are taken apart
pub record HasRejoiningRoom {S K I : Type 0} {F : I → Type 0} {g : _} (blocks forwarders : ℕ) (r : RejoiningRoom S K I F g) : Type 0 where
  pub block_threads_empty : r.block_threads.items ≡ []
  pub block_threads : vec_len r.block_threads + blocks ≤ vec_capacity r.block_threads
  pub forwarder_threads_empty : r.forwarder_threads.items ≡ []
  pub forwarder_threads : vec_len r.forwarder_threads + forwarders ≤ vec_capacity r.forwarder_threads
  pub blocks_empty : r.blocks.items ≡ []
  pub blocks_room : vec_len r.blocks + blocks ≤ vec_capacity r.blocks
  pub forwarders_empty : r.forwarders.items ≡ []
  pub forwarders_room : vec_len r.forwarders + forwarders ≤ vec_capacity r.forwarders
  pub ends_empty : r.ends.items ≡ []
  pub ends : vec_len r.ends + (blocks + (forwarders + 1)) ≤ vec_capacity r.ends

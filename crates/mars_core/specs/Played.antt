-- What the code plays, in terms of a fight: the premise and the result of its loop, over a core and
-- two queues.
use Rattle.std.specs.Prelude.{◌≡◌, ℕ, ◌*◌, ◌≤◌, List}
use Rattle.rc_instr.specs.Limits.{MOST_CYCLES}
use Rattle.rc_instr.specs.declared.instruction.Instruction.{Instruction}
use Rattle.mars_core.specs.Core.{IsCore, AreTasks}
use Rattle.mars_core.specs.Queue.{Queue}
use Rattle.mars_core.specs.State.{seen_from, play_of}
use Rattle.mars_core.specs.Fight.{turns_of}
use Rattle.mars_core.specs.declared.side.Side.{Side}

-- The premise of a fight: a core of m cells, the tasks of both sides in it, the same room for both,
-- and no more cycles than rules allow.
pub record CanPlay (m : ℕ) (core : List Instruction) (mine theirs : Queue) (cycles : ℕ) : Type 0 where
  pub core_holds : IsCore m core
  pub mine_below : AreTasks m mine.items
  pub theirs_below : AreTasks m theirs.items
  pub same_room : theirs.capacity ≡ mine.capacity
  pub few : cycles ≤ MOST_CYCLES

-- The result of a fight, whichever side moves first: its turns, at most two for each cycle; the
-- state after them, in a core of m cells again; and queues with the room that they had.
pub record Plays (m : ℕ) (core : List Instruction) (mine theirs : Queue) (cycles turns : ℕ) (core_new : List Instruction) (my_new their_new : Queue) : Type 0 where
  pub turns_are : (first : Side) → turns ≡ turns_of mine.capacity (seen_from first core mine.items theirs.items) first cycles
  pub state_is : (first : Side) →
      seen_from first core_new my_new.items their_new.items ≡ play_of mine.capacity (seen_from first core mine.items theirs.items) first turns
  pub within : turns ≤ 2 * cycles
  pub core_holds : IsCore m core_new
  pub mine_below : AreTasks m my_new.items
  pub theirs_below : AreTasks m their_new.items
  pub my_room : my_new.capacity ≡ mine.capacity
  pub their_room : their_new.capacity ≡ theirs.capacity

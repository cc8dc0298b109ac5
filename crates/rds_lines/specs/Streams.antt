-- What becomes of a reader or a writer in a run.
use Rattle.std.specs.Prelude.{◌≢◌, ◌-◌, ℕ, List, Option}
use Rattle.rds_keep.specs.Counted.{CountedValue, HasFailed}

-- the bytes that a reader holds, or that a writer has got, at first and at last, where they are known; how many reads a
-- loop made at most; whether a call may have failed, and whether the count of those that did rose
pub record Stream : Type 1 where
  pub before : Option (List ℕ)
  pub after : Option (List ℕ)
  pub reads : ℕ
  pub MayHaveFailed : Type 0
  pub CountRose : Type 0

abbrev pub stream_of : {T : Type 0} → (T → Option (List ℕ)) → CountedValue T → CountedValue T → Stream
stream_of bytes old new = record {
  before = bytes old.inner;
  after = bytes new.inner;
  reads = old.budget - new.left;
  MayHaveFailed = HasFailed old new;
  CountRose = new.failed ≢ old.failed;
}

-- no call failed
abbrev pub NoneFailed : Stream → Type 0
NoneFailed stream = stream.MayHaveFailed → ⊥

-- where no call of the writer failed, this was written, and the status goes with it
abbrev pub Emits : (Option (List ℕ) → Option (List ℕ) → ℕ → Type 0) → Stream → ℕ → Type 0
Emits writes writing status = NoneFailed writing → writes writing.before writing.after status

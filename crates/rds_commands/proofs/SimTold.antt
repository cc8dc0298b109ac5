-- What a task tells, whether its words were read or not.
use Rattle.std.proofs.Common.{◌≡◌, ◌∙◌, ℕ, List, Option, Some, None, Err, inl, inr, refl, sym, ap, subst}
use Rattle.std.specs.Prelude.{IfSome}
use Rattle.std.specs.Option.{option_map}
use Rattle.clap.specs.Words.{Text}
use Rattle.rds_names.specs.declared.fault.Fault.TheVariants.{Memory}
use Rattle.rds_keep.specs.Parts.{AppendsFront}
use Rattle.rds_lines.specs.Answering.{AnswersLines, WritesAnswers}
use Rattle.rds_lines.specs.Sim.{IsSimOutput, MayBeSimulated}
use Rattle.rds_lines.specs.Streams.{NoneFailed, Stream, Emits}
use Rattle.rds_lines.proofs.Spent.{unread}
use Rattle.rds_output.specs.Output.{Writes, fault_line}
use Rattle.rds_words.specs.Task.{task_words}
use Rattle.rds_words.specs.declared.tasks.Task.{Task}
use Rattle.rds_commands.specs.Told.{MayWriteNamed, RunsSim, WritesSim, WritesTask}

-- there was no memory to read the words, and nothing of the reader was used
pub sim_unwritten : (input : Option (List ℕ)) (reading writing : Stream) (status : ℕ) → reading.before ≡ input → reading.after ≡ input → (reading.CountRose → ⊥) → Emits (Writes (Err Memory)) writing status
    → AppendsFront writing.before writing.after (fault_line Memory) → RunsSim reading writing status
sim_unwritten input reading writing status first last steady told part = record {
  sim = not_read reading.before;
  cut = λ rose. absurd (steady rose);
  part = λ failed. inl part;
  bound = rw (first, last) (unread input _);
}
  where
    not_read : (o : Option (List ℕ)) → IfSome o (λ input. NoneFailed reading → Emits (WritesSim input) writing status)
    not_read None = tt
    not_read (Some input) = λ read wrote. inl (told wrote)

-- what becomes of the lines of `sim`
pub sim_runs : (reading writing : Stream) (status : ℕ) → AnswersLines MayBeSimulated reading writing status → RunsSim reading writing status
sim_runs reading writing status h = record {
  sim = is_sim reading.before h.answered;
  cut = h.unread;
  part = λ failed. inr (h.part failed);
  bound = h.bound;
}
  where
    is_sim : (o : Option (List ℕ)) → IfSome o (λ input. NoneFailed reading → Emits (WritesAnswers (IsSimOutput input)) writing status) → IfSome o (λ input. NoneFailed reading → Emits (WritesSim input) writing status)
    is_sim None h = tt
    is_sim (Some input) h = λ read wrote. inr (h read wrote)

-- the task that was found is the one that the words name
pub task_is : (found : Option Task) (task named : Task) → found ≡ Some task → found ≡ Some named → task ≡ named
task_is found task named is are = of_some task named (sym is ∙ are)
  where
    of_some : (task named : Task) → Some task ≡ Some named → task ≡ named
    of_some task named e = cc

-- what is written for the task that was found is written for its words
pub task_written : (found : Option Task) (task : Task) (named : Option (List Text)) (reading : Stream) (a b : Option (List ℕ)) (status : ℕ) → found ≡ Some task → option_map task_words found ≡ named → WritesTask task reading a b status
    → MayWriteNamed named reading a b status
task_written found task named reading a b status is words h = subst (λ (n : Option (List Text)). MayWriteNamed n reading a b status) (ap (option_map task_words) (sym is) ∙ words) (inr (task, refl, h))

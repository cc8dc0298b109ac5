-- A change of a kept replica that is put behind the others.
use Rattle.std.proofs.Common.{◌≡◌, ℕ, ◌+◌, ◌<◌, ◌≤◌, true, false, List, [], ◌∷◌, ◌++◌, length, take, Option, Some, None, sym, ap, ◌∙◌, subst, arith, append_assoc, append-nil}
use Rattle.std.specs.Prelude.{IfSome, is_some, option_map}
use Rattle.std.proofs.lemmas.List.{length-append, take_at}
use Rattle.rds_names.specs.Roster.{RosterValue, Begins}
use Rattle.rds_bytes.specs.Values.{IsMember}
use Rattle.rds_codec.specs.StateTexts.{IsStateOf}
use Rattle.rds_codec.specs.declared.formats.Format.{Format}
use Rattle.rds_dots.specs.declared.dot.Dot.{Dot}
use Rattle.rds_life.specs.Life.{Agree, LivesAreCompatible as AreAlike, Conflicts, Dead, Life, Live, Lived, join_life}
use Rattle.rds_state.specs.Coordinates.{AreCompatible, Coordinates}
use Rattle.rds_state.specs.Fits.{Fits, ReplicaValue}
use Rattle.rds_state.specs.Value.{coordinates}
use Rattle.rds_journal.specs.Appending.{appended}
use Rattle.rds_journal.specs.Records.{IsPayload, record_text}
use Rattle.rds_keep.specs.Changed.{ChangedValue, IsRecordOf, IsSeen, with_record}
use Rattle.rds_keep.specs.Changes.{ChangeValue, IsChanged, IsRedone, change_text}
use Rattle.rds_keep.specs.Kept.{IsFile, IsKept, IsStored, records_text}
use Rattle.rds_keep.specs.Sums.{summed_text}
use Rattle.rds_keep.specs.declared.layout.Layout.{Layout}
use Rattle.rds_keep.proofs.Chains.{made_more, own_stays, records_more}
use Rattle.rds_keep.proofs.Files.{nothing_apart, nothing_torn}

-- ---- the change is read again

agree_before : (a b : Option Life) → Agree (join_life a b) b → Agree a b
agree_before None b h = tt
agree_before (Some (Live e)) None h = tt
agree_before (Some (Live e)) (Some (Live f)) h = h
agree_before (Some (Live e)) (Some Dead) h = tt
agree_before (Some Dead) b h = tt

pub compatible_before : (old : ReplicaValue) (c : ChangeValue) (new : ReplicaValue) → IsChanged old c new → AreAlike new.state.lives c.delta.lives → AreCompatible (coordinates old.state) (coordinates c.delta)
compatible_before old c new changed alike = record {
  each_dot = λ d. (
      let was = (coordinates old.state).life d in
      let delta = (coordinates c.delta).life d in
      agree_before was delta (subst (λ (l : Option Life). Agree l delta) (ap (λ (a : Coordinates). a.life d) changed.joined) (alike.each_dot d)));
}

pub redone_by : (old : ReplicaValue) (c : ChangeValue) (new : ReplicaValue) → IsChanged old c new → AreAlike new.state.lives c.delta.lives → ((n : ℕ) → Fits n (coordinates c.delta) → IsStateOf n c.delta) → (new.own < length new.roster.names → IsMember new.roster new.own) → new.own < length new.roster.names
    → IsRedone old c new
redone_by old c new changed alike delta member below =
    let here : IsMember new.roster old.own = subst (λ (n : ℕ). IsMember new.roster n) changed.own (member below) in
    record {
      change = record {
        begins = subst (λ (r : RosterValue). Begins old.roster r) changed.roster changed.begins;
        member = subst (λ (r : RosterValue). IsMember r old.own) changed.roster here;
        delta = subst (λ (r : RosterValue). IsStateOf (length r.names) c.delta) changed.roster (delta (length new.roster.names) changed.fits);
      };
      changed = changed;
      compatible = compatible_before old c new changed alike;
    }

-- ---- the file with its record

file_more : (bytes : List ℕ) (format : Format) (count : ℕ) (c : ChangedValue) → IsFile bytes format count c.before → IsRecordOf c → IsFile (bytes ++ c.bytes) format count c.after
file_more bytes format count c file is =
    let own = own_stays file.first file.changes c.before file.made in
    let text : record_text (change_text file.first.own is.change) ≡ c.bytes = ap (λ (n : ℕ). record_text (change_text n is.change)) (sym own) ∙ sym is.bytes in
    record {
      first = file.first;
      is_summed = file.is_summed;
      changes = file.changes ++ is.change ∷ [];
      parts = ap (λ (t : List ℕ). t ++ c.bytes) file.parts ∙ append_assoc (summed_text format file.is_summed file.first) (records_text file.first.own file.changes) c.bytes
          ∙ ap (λ (t : List ℕ). summed_text format file.is_summed file.first ++ (records_text file.first.own file.changes ++ t)) (sym text)
          ∙ ap (λ (t : List ℕ). summed_text format file.is_summed file.first ++ t) (sym (records_more file.first.own file.changes is.change));
      value = file.value;
      within = file.within;
      made = made_more file.first file.changes c.before is.change c.after file.made is.redone is.payload;
      size = file.size;
    }

pub stored_more : (file : List ℕ) (layout : Layout) (c : ChangedValue) → IsStored file c.before layout → IsRecordOf c → IsStored (appended file layout.whole c.bytes) c.after (with_record layout (length c.bytes))
stored_more file layout c stored is =
    let front : take layout.whole file ≡ stored.whole = ap (take layout.whole) stored.parts ∙ take_at stored.whole stored.torn layout.whole (sym stored.size) in
    let size = stored.size in
    let longer : IsFile (take layout.whole file ++ c.bytes) layout.format layout.snapshot c.after =
    subst (λ (t : List ℕ). IsFile (t ++ c.bytes) layout.format layout.snapshot c.after) (sym front) (file_more stored.whole layout.format layout.snapshot c stored.file is) in
    let all : length (take layout.whole file ++ c.bytes) ≡ layout.whole + length c.bytes = omega (arith, size, ap length front, length-append (take layout.whole file) c.bytes) in
    record {
      whole = take layout.whole file ++ c.bytes;
      torn = [];
      parts = sym (append-nil (take layout.whole file ++ c.bytes));
      file = longer;
      end = nothing_torn;
      apart = nothing_apart longer;
      size = sym all;
      all = sym all;
    }

pub kept_more : (c : ChangedValue) → IsKept c.before → IsRecordOf c → IsKept c.after
kept_more c kept is = record {
  bytes = appended kept.bytes kept.layout.whole c.bytes;
  layout = with_record kept.layout (length c.bytes);
  stored = stored_more kept.bytes kept.layout c kept.stored is;
}

-- where the whole records of a file end
pub end_of : (file : List ℕ) (v : ReplicaValue) (layout : Layout) → IsStored file v layout → (layout.whole ≤ length file) × (layout.length ≤ layout.whole → layout.whole ≡ length file)
end_of file v layout stored =
    let size = stored.size in
    let all = stored.all in
    let parts = ap length stored.parts in
    let lengths = length-append stored.whole stored.torn in
    (omega (arith, size, all, parts, lengths), λ none. omega (arith, size, all, parts, lengths, none))

-- what is seen then
pub appended_seen : (old new : Option (List ℕ)) (c : ChangedValue) (layout : Layout) → IfSome old (λ file. IsStored file c.before layout) → new ≡ option_map (λ file. appended file layout.whole c.bytes) old → IsRecordOf c
    → IfSome old (λ _. IsSeen new c.after (with_record layout (length c.bytes)))
appended_seen None new c layout stored same is = tt
appended_seen (Some file) new c layout stored same is = (appended file layout.whole c.bytes, same, stored_more file layout c stored is)

no_conflict : (a b : Lived) (found : Option Dot) → is_some found ≡ false → Conflicts a b found → AreAlike a b
no_conflict a b None none is = is
no_conflict a b (Some d) none is = absurd (let no : true ≡ false = none in cc)

-- the record of a change, and why it can be read again
pub is_record : (before after : ReplicaValue) (c : ChangeValue) (bytes : List ℕ) (found : Option Dot) → IsChanged before c after → is_some found ≡ false → Conflicts after.state.lives c.delta.lives found → ((n : ℕ) → Fits n (coordinates c.delta) → IsStateOf n c.delta)
    → (after.own < length after.roster.names → IsMember after.roster after.own) → after.own < length after.roster.names → bytes ≡ record_text (change_text after.own c) → IsPayload (change_text after.own c)
    → IsRecordOf (record { before = before; after = after; bytes = bytes })
is_record before after c bytes found changed none conflicts delta member below text short = record {
  change = c;
  redone = redone_by before c after changed (no_conflict after.state.lives c.delta.lives found none conflicts) delta member below;
  payload = subst (λ (n : ℕ). IsPayload (change_text n c)) changed.own short;
  bytes = text ∙ ap (λ (n : ℕ). record_text (change_text n c)) changed.own;
}

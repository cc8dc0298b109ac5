-- What stands at a path, or why nothing is reported.
use Rattle.std.proofs.Common.{◌≡◌, ◌∙◌, ◌⊎◌, ◌++◌, ◌-◌, ◌∷◌, ℕ, List, [], Result, Ok, Err, ap, inl, inr, refl, subst, sym}
use Rattle.rds_names.specs.declared.fault.Fault.{Fault}
use Rattle.rds_names.specs.declared.fault.Fault.TheVariants.{BadPath, Memory}
use Rattle.rds_names.specs.Gives.{Refuses}
use Rattle.rds_names.specs.Path.{path_of}
use Rattle.rds_state.specs.Fits.{ReplicaValue}
use Rattle.rds_keep.specs.declared.layout.Layout.{Layout}
use Rattle.rds_lines.specs.Overview.{TellsOverview}
use Rattle.rds_output.specs.declared.reply.Reply.{Reply}
use Rattle.rds_files.specs.Files.{FileValue, IsReadAt, IsUnreadFile}
use Rattle.rds_words.proofs.OneMeaning.{ok_isnt_err}
use Rattle.rds_commands.specs.Looks.{DescribesFile, RefusesGet}

-- it is reported of what the file holds
pub describes_file : (path : List ℕ) (file : FileValue) (kept : ReplicaValue) (layout : Layout) (records : ℕ) (answer : Reply) → IsReadAt path file → kept ≡ file.kept → layout ≡ file.layout → records ≡ layout.whole - layout.snapshot
    → TellsOverview kept layout.snapshot records answer → DescribesFile path file answer
describes_file path file kept layout records answer read same lies count told = record { read = read; told = rw (← lies, ← count, ← same) told }

module _ (text : List ℕ) (keys : List (List ℕ)) (is : path_of text ≡ Ok keys) where
  -- the path is that of the root, or there is no memory
  pub no_place : (fault : Fault) → (fault ≡ Memory) ⊎ ((fault ≡ BadPath) × (keys ≡ [])) → RefusesGet text fault
  no_place fault h = elim h [
    | inl memory ↦ inl (unfound fault memory)
    | inr root ↦ inr (inl (root.0, is ∙ ap Ok root.1))
  ]
    where
      unfound : (fault : Fault) → fault ≡ Memory → Refuses fault (path_of text)
      unfound fault memory = rw (memory, is) refl

  -- there is no replica in the file
  pub no_file : (above : List (List ℕ)) (key : List ℕ) (fault : Fault) → keys ≡ above ++ key ∷ [] → IsUnreadFile fault → RefusesGet text fault
  no_file above key fault at unread = inr (inr ((above, key, is ∙ ap Ok at), unread))

  -- the empty text is the root's
  pub root_keys : text ≡ [] → keys ≡ []
  root_keys none = of_ok keys (subst (λ (t : List ℕ). path_of t ≡ Ok keys) none is)
    where
      of_ok : (keys : List (List ℕ)) → ◌≡◌ {A = Result (List (List ℕ)) Fault} (Ok []) (Ok keys) → keys ≡ []
      of_ok keys e = cc

  -- a path that has a last key isn't the root's
  pub not_root : {P : Type 0} (above : List (List ℕ)) (key : List ℕ) → keys ≡ above ++ key ∷ [] → text ≡ [] → P
  not_root above key at none = absurd (has_keys above (sym at ∙ root_keys none))
    where
      has_keys : (above : List (List ℕ)) → above ++ key ∷ [] ≡ [] → ⊥
      has_keys [] e = cc
      has_keys (first ∷ above) e = cc

  -- a path isn't refused
  pub not_bad : {P : Type 0} (fault : Fault) → path_of text ≡ Err fault → P
  not_bad fault due = absurd (ok_isnt_err keys fault (sym is ∙ due))

  -- there is no memory for what is reported
  pub no_answer : (fault : Fault) → fault ≡ Memory → RefusesGet text fault
  no_answer fault memory = no_place fault (inl memory)

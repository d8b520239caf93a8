use Rattle.std.proofs.Common.{◌≡◌, ◌+◌, ◌∷◌, ◌++◌, List, [], ℕ, drop, le_trans, sym, ap, subst, ◌∙◌}
use Rattle.std.specs.Prelude.{Option}
use Rattle.std.proofs.lemmas.List.{drop_more}
use Rattle.wsym_io.specs.Io.{File, IfTold, file_bytes}
use Rattle.input_files.specs.Inputs.{IsUnread, bytes_of}
use Rattle.input_files.proofs.FileLemmas.{IsLifted, lift_next, short_next, short_told, told_next, unread_next}
use Rattle.input_files.proofs.reading.read_files.Goals as goal

pub returns-in-Err-clause-refused : goal.returns-in-Err-clause-refused
returns-in-Err-clause-refused g c =
    let content = g.F.Shelf.content c.args.shelf.now in
    let before = g.F.Shelf.faults c.args.shelf.now in
    let middle = g.F.Shelf.faults c.loop-name.shelf in
    let after = g.F.Shelf.faults c.read_file.new.shelf in
    let names = c.args.names.now in
    let i = c.loop-name.name-index in
    let name = c.name-item.result in
    let rest = drop (i + 1) names in
    let step : drop i names ≡ name ∷ rest =
    drop_more names i name c.loop-name-test.true ∙ ap (λ (x : List ℕ). x ∷ rest) (sym c.name-item.is) in
    unread_next content before middle after c.loop-name.files.items names rest name c.in-Err.why
    c.loop-name.invariant.later
    (subst (λ (xs : List (List ℕ)). IsLifted content before xs names) step c.loop-name.invariant.lifted)
    (subst (λ (xs : List (List ℕ)). IfTold content (λ shelf. c.loop-name.files.items ++ bytes_of shelf xs ≡ bytes_of shelf names)) step
    c.loop-name.invariant.told)
    (subst (λ (o : Option (List File)). IsUnread o middle after (name ∷ []) c.in-Err.why) c.loop-name.invariant.content
    (rw c.as_str.ensures at c.in-Err.ensures.refused))

pub loop-name-preserved : goal.loop-name-preserved
loop-name-preserved g c =
    let content = g.F.Shelf.content c.args.shelf.now in
    let before = g.F.Shelf.faults c.args.shelf.now in
    let names = c.args.names.now in
    let i = c.loop-name.name-index in
    let name = c.name-item.result in
    let rest = drop (i + 1) names in
    let step : drop i names ≡ name ∷ rest =
    drop_more names i name c.loop-name-test.true ∙ ap (λ (x : List ℕ). x ∷ rest) (sym c.name-item.is) in
    let told = subst (λ (o : Option (List File)). IfTold o (λ shelf. c.in-Ok.bytes ≡ file_bytes shelf name)) c.loop-name.invariant.content
    (rw c.as_str.ensures at c.in-Ok.ensures.told) in
    record {
      told =
          rw c.in-Ok-push.ensures.items (told_next content c.loop-name.files.items names rest c.in-Ok.bytes name
          (subst (λ (xs : List (List ℕ)). IfTold content (λ shelf. c.loop-name.files.items ++ bytes_of shelf xs ≡ bytes_of shelf names)) step
          c.loop-name.invariant.told) told);
      short = rw c.in-Ok-push.ensures.items (short_next c.loop-name.files.items c.in-Ok.bytes c.loop-name.invariant.short c.in-Ok.ensures.short);
      content = c.read_file.ensures.content ∙ c.loop-name.invariant.content;
      later = λ other. le_trans (c.loop-name.invariant.later other) (c.read_file.ensures.later other);
      lifted =
          lift_next content before name rest names
          (subst (λ (xs : List (List ℕ)). IsLifted content before xs names) step c.loop-name.invariant.lifted)
          (short_told content name c.in-Ok.bytes told c.in-Ok.ensures.short);
    }

use Rattle.std.proofs.Common.{get_or, ◌≡◌, ◌+◌, ◌++◌, [], ◌∷◌, Bool, sym, ap, ◌∙◌, take, refl, if◌then◌else◌}
use Rattle.std.specs.List.{join_with_byte}
use Rattle.std.proofs.Output.{has_written_append, has_written_of_eq}
use Rattle.lagtypes.proofs.WordLemmas.{word_set, word_unset, join_more, words_of, is_empty, is_empty-append}
use Rattle.lagtypes.proofs.state.write_words.Goals as goal
use Rattle.lagtypes.proofs.state.write_words.Goals.{then-contains+in_ok-write_word, else-contains}

pub loop-flag-preserved : goal.loop-flag-preserved
loop-flag-preserved g c = let before = words_of c.args.state.0 (take c.loop-flag.flag-index c.args.words.now) in
    elim c.if-contains.branch [
      | then-contains+in_ok-write_word w ↦
          let e = word_set _ _ _ _ _ c.loop-flag-test.true (c.contains.ensures tt) w.if-contains.true in
          let word = (get_or c.args.words.now c.loop-flag.flag-index (record { 0 = 0 }, record { ref_ptr = (0, 0); now = [] })).1.now in
          let text : join_with_byte 44 before ++ (if c.loop-flag.is_first then word else (44 ∷ word)) ≡ join_with_byte 44
          (words_of c.args.state.0 (take (c.loop-flag.flag-index + 1) c.args.words.now)) =
          ap (λ (b : Bool). join_with_byte 44 before ++ (if b then word else (44 ∷ word))) c.loop-flag.invariant.first
          ∙ sym (join_more before word) ∙ ap (join_with_byte 44) (sym e) in
          record {
            written = λ plain.
                let so_far = c.loop-flag.invariant.written plain in
                rw w.f-is (has_written_of_eq _ _ _ _ _ text (has_written_append _ _ _ _ _ _ so_far (w.in_ok-write_word.ensures so_far.plain refl)));
            first = w.is_first-is ∙ sym (is_empty-append before word) ∙ ap is_empty (sym e);
          }
      | else-contains w ↦
          let e = word_unset _ _ _ _ _ c.loop-flag-test.true (c.contains.ensures tt) w.if-contains.false in
          record {
            written = λ plain. rw (e, w.f-is) (c.loop-flag.invariant.written plain);
            first = w.is_first-is ∙ c.loop-flag.invariant.first ∙ ap is_empty (sym e);
          }
    ]

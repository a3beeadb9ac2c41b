use Rattle.std.proofs.Common.{◌≡◌, List, ℕ, ap, sym, subst, ◌∙◌}
use Rattle.std.specs.List.{AllByRecursion}
use Rattle.sdl_signal.specs.Names.{Lexicon}
use Rattle.sdl_signal.specs.declared.values.Item.{Item}
use Rattle.sdl_signal.specs.Environment.{HasRead}
use Rattle.sdl_app_command.specs.Pipe.{pipe_lexicon, HasQueued, HasWrittenText, IsWritable, text_of, piped_text}
use Rattle.sdl_app_command.proofs.Piped.{queue_is_writable, text_of-queued_items}
use Rattle.sdl_app_command.proofs.pipe.pipe.Goals as goal

pub write_all-written-requires : goal.write_all-written-requires
write_all-written-requires g c =
    let is : c.in_ok-names.names ≡ pipe_lexicon = c.in_ok-names.ensures in
    let (carried, read, queued) = c.in_ok-read.ensures.read in
    let P : Lexicon → Type 0 = λ names. HasQueued names carried c.read_all.new.queue in
    let (queue, each) = subst P is queued in
    let Q : List Item → Type 0 = AllByRecursion (IsWritable pipe_lexicon) in
    let R : Lexicon → Type 0 = λ names. AllByRecursion (IsWritable names) c.read_all.new.queue in
    subst R (sym is) (subst Q (sym queue) (queue_is_writable 0 carried each))

pub returns-clause-piped : goal.returns-clause-piped
returns-clause-piped g c =
    let is : c.in_ok-names.names ≡ pipe_lexicon = c.in_ok-names.ensures in
    let (carried, read, queued) = c.in_ok-read.ensures.read in
    let P : Lexicon → Type 0 = λ names. HasRead names (g.R.Read.remaining c.args.input.now) (g.R.Read.remaining c.read_all.new.input) carried c.in_ok-read.read in
    let Q : Lexicon → Type 0 = λ names. HasQueued names carried c.read_all.new.queue in
    let (queue, each) = subst Q is queued in
    let W : List ℕ → Type 0 = λ text. HasWrittenText (g.W.Write.contents c.args.output.now) (g.W.Write.contents c.write_all-written.new.output) text c.write_all-written.result in
    let text : text_of c.in_ok-names.names c.read_all.new.queue ≡ piped_text pipe_lexicon carried =
    ap (λ names. text_of names c.read_all.new.queue) is ∙ ap (text_of pipe_lexicon) queue ∙ text_of-queued_items 0 carried each in
    (c.in_ok-read.ensures.end, (carried, subst P is read, subst W text c.write_all-written.ensures))

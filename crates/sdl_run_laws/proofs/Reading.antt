-- What the environment of Echo reads and writes.
use Rattle.std.proofs.Common.{◌≡◌, [], ◌∷◌, Some, refl, codes, lit≤, arith, inl}
use Rattle.std.specs.Fmt.{digits}
use Rattle.sdl_signal.specs.declared.ends.InputEnd.TheVariants as input
use Rattle.sdl_signal.specs.declared.ends.OutputEnd.TheVariants as output
use Rattle.sdl_signal_lines.specs.Bytes.{HasNoNewline}
use Rattle.sdl_signal.specs.Line.{line_text}
use Rattle.sdl_signal.specs.Reading.{NamesFirst}
use Rattle.sdl_structure_parts.specs.Structure.{lexicon_of}
use Rattle.sdl_run_outcome.specs.EnvironmentWork.{HasReadAll, HasWritten, received_text}
use Rattle.sdl_run_laws.specs.Echo.{echo, to_e, routes}
use Rattle.sdl_run_laws.specs.EchoRun.{leaves, ping_line, input_text, output_text}

ping_text : line_text (lexicon_of echo) ping_line ≡ Some (codes "line ping 7")
unfolding digits
ping_text = refl

ping_names : NamesFirst (lexicon_of echo) ping_line
ping_names = (λ k less same. omega (arith, less), λ k less same. omega (arith, less), (tt, tt), tt)

no_newline : HasNoNewline (codes "line ping 7")
no_newline = (
  λ e. omega (arith, e),
  (
    λ e. omega (arith, e),
    (
      λ e. omega (arith, e),
      (
        λ e. omega (arith, e),
        (
          λ e. omega (arith, e),
          (
            λ e. omega (arith, e),
            (λ e. omega (arith, e), (λ e. omega (arith, e), (λ e. omega (arith, e), (λ e. omega (arith, e), (λ e. omega (arith, e), tt))))),
          ),
        ),
      ),
    ),
  ),
)

pub reads : HasReadAll echo routes 1 (Some input_text) (Some []) leaves.env_put input.Whole
reads = (
  ping_line ∷ [],
  ((refl, (to_e, refl, record { signal = refl; start = refl; end = tt; via = tt })), tt),
  (input_text, refl, (codes "line ping 7" ∷ [], ([], (no_newline, inl refl), refl), (ping_text, ping_names, tt), lit≤ tt)),
)

pub writes : HasWritten (Some []) (Some output_text) (received_text (lexicon_of echo) routes leaves.env_received) output.Whole
unfolding digits
writes = refl

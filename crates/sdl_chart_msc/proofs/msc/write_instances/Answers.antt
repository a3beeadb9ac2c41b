use Rattle.std.proofs.Common.{◌≡◌, ℕ, List, ◌++◌, Option, None, map, take, sym, subst, arith}
use Rattle.std.proofs.lemmas.List.{take_all}
use Rattle.std.proofs.KnownBytes.{Appends-trans}
use Rattle.std.specs.Io.KnownBytes.{Appends}
use Rattle.sdl_chart_msc.specs.declared.places.Place.{Place}
use Rattle.sdl_chart_msc.specs.Lines.{script_of, place_text, lines_after, last_of, foot_text}
use Rattle.sdl_chart_msc.proofs.Gathered.{lines_step, last_more}
use Rattle.sdl_chart_msc.proofs.Written.{on_ok}
use Rattle.sdl_chart_msc.proofs.msc.write_instances.Goals as goal

pub loop-index-preserved : goal.loop-index-preserved
loop-index-preserved g c =
    let line : Option Place → Place → List ℕ = place_text (script_of c.args.scene.now) (map g.K.LogStore.events c.args.logs.now) c.args.scene.now.page.now.rows in
    record {
      written = lines_step line c.loop-index.index c.args.places.now _ _ _ _ _ c.loop-index-test.true c.loop-index.invariant.last c.loop-index.invariant.written c.in_ok-write_place.ensures;
      last = sym (last_more None c.loop-index.index c.args.places.now _ c.loop-index-test.true);
    }

pub returns : goal.returns
returns g c =
    let line : Option Place → Place → List ℕ = place_text (script_of c.args.scene.now) (map g.K.LogStore.events c.args.logs.now) c.args.scene.now.page.now.rows in
    let ps = c.args.places.now in
    let all : take c.loop-index.index ps ≡ ps = take_all c.loop-index.index ps (omega (arith, c.loop-index-test.false)) in
    on_ok c.write_foot.result _ _
    (λ foot.
    subst (λ (qs : List Place). Appends (g.W.Write.contents c.args.output.now) (g.W.Write.contents c.write_foot.new.output) (lines_after line None qs ++ foot_text (last_of None qs))) all
    (Appends-trans _ _ _ _ _ c.loop-index.invariant.written
    (subst (λ (b : Option Place). Appends (g.W.Write.contents c.loop-index.output) (g.W.Write.contents c.write_foot.new.output) (foot_text b)) c.loop-index.invariant.last foot))) c.write_foot.ensures

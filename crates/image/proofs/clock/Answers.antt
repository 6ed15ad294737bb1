use Rattle.image.proofs.Link.{image_good, image_bad, ok_told, err_told}
use Rattle.image.specs.Image.{clock_call, image_of_bytes}
use Rattle.dots.specs.Answers.{refusal, answer}
use Rattle.std.proofs.lemmas.Result.{err_from_is_err_and}
use mathlib.Core.Path.{◌∙◌}
use Rattle.image.proofs.clock.Goals as goal

pub returns-in_err-x : goal.returns-in_err-x
unfolding clock_call answer refusal
returns-in_err-x c =
    let p = err_from_is_err_and c.from_residual.result c.from_residual.ensures.1 in
    let q = err_told _ _ _ c.in_err-x.ensures.value in
    rw (p.1, p.2, q.1, image_bad c.args.img.now (q.0 ∙ c.check.ensures))

pub returns : goal.returns
unfolding clock_call answer image_of_bytes
returns c = let r = image_good c.args.img.now _ (ok_told _ _ _ c.in_ok-x.ensures.value ∙ c.check.ensures) in rw (r.0, r.1)

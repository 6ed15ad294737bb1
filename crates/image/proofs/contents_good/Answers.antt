use Rattle.image.proofs.Steps.{contents_short, contents_version, contents_zero, contents_total, contents_many, contents_waits}
use native.Mathlib.Omega.{arith}
use mathlib.Core.Bool.{false≢true}
use Rattle.image.proofs.contents_good.Goals as goal

pub returns-then-s-lt24 : goal.returns-then-s-lt24
returns-then-s-lt24 c = (contents_short c.args.s.now (omega arith), λ e. absurd (false≢true e))

pub returns-then-u16_at-ne1 : goal.returns-then-u16_at-ne1
returns-then-u16_at-ne1 c = (contents_version c.args.s.now (λ e. omega arith), λ e. absurd (false≢true e))

pub returns-then-u16_at-ne0 : goal.returns-then-u16_at-ne0
returns-then-u16_at-ne0 c = (contents_zero c.args.s.now (λ e. omega arith), λ e. absurd (false≢true e))

pub returns-then-index-s : goal.returns-then-index-s
returns-then-index-s c = (contents_total c.args.s.now (λ e. omega arith), λ e. absurd (false≢true e))

pub returns-then-u32_at-gt64 : goal.returns-then-u32_at-gt64
returns-then-u32_at-gt64 c = (contents_many c.args.s.now (omega arith), λ e. absurd (false≢true e))

pub returns : goal.returns
returns c = (contents_waits c.args.s.now (omega arith) (omega arith) (omega arith) (omega arith) (omega arith) _ c.u32_at-3.ensures, λ e. omega arith)

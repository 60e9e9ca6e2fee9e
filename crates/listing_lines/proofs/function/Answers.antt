use Rattle.listing_bytes.specs.Decimal.{decimal, integral}
use Rattle.listing_lines.specs.Line.{function_as, no_function}
use Rattle.listing_bytes.specs.Written.{◌then◌, wrote_as}
use Rattle.std.proofs.Common.{sym, ap, arith, ◌≡◌}
use Rattle.listing_lines.proofs.function.Goals as goal

pub returns-in-1 : goal.returns-in-1
unfolding function_as decimal integral
returns-in-1 c =
    let a = c.args in
    let key = c.in-1.is in
    let copied = c.copy-p.ensures in
    (wrote_as (ap (λ k. function_as k a.a a.b a.c) (sym key)) (copied then c.spaced_number.ensures.0), omega (arith, copied.behind))

pub returns-in-2 : goal.returns-in-2
unfolding function_as decimal integral
returns-in-2 c =
    let a = c.args in
    let key = c.in-2.is in
    (wrote_as (ap (λ k. function_as k a.a a.b a.c) (sym key)) c.two_numbers.ensures.0, omega arith)

pub returns-in-3 : goal.returns-in-3
unfolding function_as decimal integral
returns-in-3 c =
    let a = c.args in
    let key = c.in-3.is in
    (wrote_as (ap (λ k. function_as k a.a a.b a.c) (sym key)) c.two_numbers-in-3.ensures.0, omega arith)

pub returns-in-4 : goal.returns-in-4
unfolding function_as decimal integral
returns-in-4 c =
    let a = c.args in
    let key = c.in-4.is in
    (wrote_as (ap (λ k. function_as k a.a a.b a.c) (sym key)) c.two_numbers-in-4.ensures.0, omega arith)

pub returns-in-5 : goal.returns-in-5
unfolding function_as decimal integral
returns-in-5 c =
    let a = c.args in
    let key = c.in-5.is in
    (wrote_as (ap (λ k. function_as k a.a a.b a.c) (sym key)) c.two_numbers-in-5.ensures.0, omega arith)

pub returns-in-6 : goal.returns-in-6
unfolding function_as decimal integral
returns-in-6 c =
    let a = c.args in
    let key = c.in-6.is in
    (wrote_as (ap (λ k. function_as k a.a a.b a.c) (sym key)) c.two_numbers-in-6.ensures.0, omega arith)

pub returns-in-7 : goal.returns-in-7
unfolding function_as decimal integral
returns-in-7 c =
    let a = c.args in
    let key = c.in-7.is in
    (wrote_as (ap (λ k. function_as k a.a a.b a.c) (sym key)) c.number_and_constant.ensures.0, omega arith)

pub returns-in-8 : goal.returns-in-8
unfolding function_as decimal integral
returns-in-8 c =
    let a = c.args in
    let key = c.in-8.is in
    (wrote_as (ap (λ k. function_as k a.a a.b a.c) (sym key)) c.number_and_constant-in-8.ensures.0, omega arith)

pub returns-in_default : goal.returns-in_default
unfolding function_as decimal integral
returns-in_default c =
    let a = c.args in
    let none : function_as a.f a.a a.b a.c ≡ function_as 0 a.a a.b a.c = no_function a.f a.a a.b a.c (λ e. absurd (omega arith)) (λ e. absurd (omega arith)) (λ e. absurd (omega arith)) (λ e. absurd (omega arith)) (λ e. absurd (omega arith)) (λ e. absurd (omega arith)) (λ e. absurd (omega arith)) (λ e. absurd (omega arith)) in
    let copied = c.copy-p-in_default.ensures in
    (wrote_as (sym none) (copied then c.spaced_integer.ensures.0), omega (arith, copied.behind))

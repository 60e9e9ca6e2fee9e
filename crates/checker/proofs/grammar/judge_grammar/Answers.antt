use native.Mathlib.Omega.{arith}
use Prim.Native.Nat.{ℕ, ◌+◌, ◌*◌, ◌<◌}
use mathlib.Core.List.{List}
use Rattle.std.proofs.Common.{◌≡◌, ap, subst}
use Rattle.std.proofs.lemmas.Grind.{common_steps}
use Rattle.std.proofs.lemmas.Result.{err_from_is_err_and}
use Rattle.meaning.specs.Limits.{nonterminals_limit}
use Rattle.refusals.specs.Numbers.{fault_number}
use Rattle.outline.specs.declared.Sizes.{Sizes}
use Rattle.outline.specs.Images.{image_of}
use Rattle.outline.specs.Outline.{grammar_in, NumbersOf, Productions}
use Rattle.analysis.specs.Finding.{Analysed}
use Rattle.analysis_whole.specs.Flaws.{flaw_number, flawed}
use Rattle.clash.specs.Placing.{bytes_of}
use Rattle.checker.proofs.grammar.Concluding.{index_small, flaw_concludes, clash_concludes, none_concludes}
use Rattle.checker.proofs.grammar.judge_grammar.Goals as goal

start_small : {t rows offsets : List ℕ} {sizes : Sizes} → Productions t rows offsets sizes.productions → NumbersOf sizes (grammar_in t) → sizes.start < nonterminals_limit
start_small x n = omega (arith, n.start, x.rows_of.sound.start, x.rows_of.narrow)

pub analyse-requires : goal.analyse-requires
analyse-requires c = let x = c.requires.0 in let n = c.requires.1 in (image_of x.rows_of, omega (arith, n.nonterminals, x.rows_of.narrow), start_small x n, c.requires.2)

pub map_err-requires : goal.map_err-requires
map_err-requires c =
    λ e q.
    let listed : Productions c.args.table.now c.args.rows.now c.args.offsets.now c.args.sizes.productions = c.requires.0 in
    let analysed : Analysed (grammar_in c.args.table.now) (flaw_number c.analyse.result) (flawed c.analyse.result) c.analyse.new.sets = let n = c.requires.1 in c.analyse.ensures _ listed.rows_of n.nonterminals n.start in
    subst (λ m. m < nonterminals_limit) (ap flawed q) (index_small _ c.args.sizes _ _ listed _ _ _ analysed)

pub returns-in_err-map_err : goal.returns-in_err-map_err
returns-in_err-map_err c =
    let listed : Productions c.args.table.now c.args.rows.now c.args.offsets.now c.args.sizes.productions = c.requires.0 in
    let analysed : Analysed (grammar_in c.args.table.now) (flaw_number c.analyse.result) (flawed c.analyse.result) c.analyse.new.sets = let n = c.requires.1 in c.analyse.ensures _ listed.rows_of n.nonterminals n.start in
    let p = err_from_is_err_and c.from_residual.result c.from_residual.ensures.1 in
    let number : fault_number p.0.fault ≡ flaw_number c.analyse.result = grind (arith, common_steps) in
    let offset : p.0.offset ≡ 7 + 5 * flawed c.analyse.result = grind (arith, common_steps) in
    rw p.1 (flaw_concludes _ c.args.sizes _ _ listed _ _ _ analysed p.0 number offset)

pub lowest_clash-requires : goal.lowest_clash-requires
lowest_clash-requires c =
    let listed : Productions c.args.table.now c.args.rows.now c.args.offsets.now c.args.sizes.productions = c.requires.0 in
    let analysed : Analysed (grammar_in c.args.table.now) (flaw_number c.analyse.result) (flawed c.analyse.result) c.analyse.new.sets = let n = c.requires.1 in c.analyse.ensures _ listed.rows_of n.nonterminals n.start in
    let fine : flaw_number c.analyse.result ≡ 0 = grind (arith, common_steps) in
    record { is_bytes = bytes_of c.args.table.now (λ i. omega (arith, c.type_inv.table i)); productions = listed; starting = λ p l. analysed.starting fine p (omega (arith, listed.rows_of.counted)) }

pub returns-in-Some : goal.returns-in-Some
returns-in-Some c =
    let listed : Productions c.args.table.now c.args.rows.now c.args.offsets.now c.args.sizes.productions = c.requires.0 in
    let analysed : Analysed (grammar_in c.args.table.now) (flaw_number c.analyse.result) (flawed c.analyse.result) c.analyse.new.sets = let n = c.requires.1 in c.analyse.ensures _ listed.rows_of n.nonterminals n.start in
    let fine : flaw_number c.analyse.result ≡ 0 = grind (arith, common_steps) in
    clash_concludes _ c.args.sizes _ _ listed _ _ _ analysed fine _ c.in-Some.ensures

pub returns-in-None : goal.returns-in-None
returns-in-None c =
    let listed : Productions c.args.table.now c.args.rows.now c.args.offsets.now c.args.sizes.productions = c.requires.0 in
    let analysed : Analysed (grammar_in c.args.table.now) (flaw_number c.analyse.result) (flawed c.analyse.result) c.analyse.new.sets = let n = c.requires.1 in c.analyse.ensures _ listed.rows_of n.nonterminals n.start in
    let fine : flaw_number c.analyse.result ≡ 0 = grind (arith, common_steps) in
    none_concludes _ c.args.sizes _ _ listed _ _ _ analysed fine c.in-None.ensures _

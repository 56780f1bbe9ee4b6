use Rattle.std.proofs.Common.{ℕ, ◌≡◌, ◌<◌, ◌∙◌, ap, sym, refl, arith, List, Some, length, get_or}
use Rattle.std.specs.Prelude.{slice_get}
use Rattle.std.proofs.lemmas.Option.{slice_get_read}
use Rattle.xmt_quads.specs.declared.homes.Home.{Home}
use Rattle.xmt_quads.specs.declared.code.QuadFunction.{QuadFunction}
use Rattle.broadcast.proofs.Held.{same_registers, own_homes, home_there, function_more, masks_are}
use Rattle.broadcast.proofs.spawns.masks.Goals as goal

function_is : (functions shown : List QuadFunction) (i : ℕ) (f : QuadFunction) → shown ≡ functions → i < length shown → f ≡ get_or shown i f → slice_get functions i ≡ Some f
function_is functions shown i f same within here = ap (λ (functions : List QuadFunction). slice_get functions i) (sym same) ∙ slice_get_read shown (length shown) i f refl within here

homes_are : (homes shown : List (List Home)) (i : ℕ) (own item : List Home) → shown ≡ homes → i < length homes → item ≡ get_or shown i item → own ≡ item → slice_get homes i ≡ Some own
homes_are homes shown i own item same within here is =
    let there : i < length shown = omega (arith, within, ap (λ (homes : List (List Home)). length homes) same) in
    ap (λ (homes : List (List Home)). slice_get homes i) (sym same) ∙ slice_get_read shown (length shown) i item refl there here ∙ ap Some (sym is)

pub push_function-requires-clause-registers : goal.push_function-requires-clause-registers
push_function-requires-clause-registers c =
    let functions = c.args.program.now.functions in
    let homes = c.args.allocation.now.homes in
    let i = c.loop-number.number in
    let f : QuadFunction = c.index-functions-number.result in
    let within : i < length c.as_slice-functions.result.now = omega (arith, c.loop-number-test.true) in
    let inside : i < length functions = omega (arith, within, ap (λ (functions : List QuadFunction). length functions) c.as_slice-functions.ensures) in
    let here = function_is functions c.as_slice-functions.result.now i f c.as_slice-functions.ensures within c.index-functions-number.is in
    let home = homes_are homes c.as_slice-homes.result.now i c.as_slice.result.now c.index-homes-number.result c.as_slice-homes.ensures (home_there c.args.program.now homes c.requires i inside) c.index-homes-number.is c.as_slice.ensures in
    same_registers c.args.program.now homes c.requires i f c.as_slice.result.now here home

pub push_function-requires-clause-homes : goal.push_function-requires-clause-homes
push_function-requires-clause-homes c =
    let homes = c.args.allocation.now.homes in
    let i = c.loop-number.number in
    let inside : i < length c.args.program.now.functions = omega (arith, c.loop-number-test.true, ap (λ (functions : List QuadFunction). length functions) c.as_slice-functions.ensures) in
    let home = homes_are homes c.as_slice-homes.result.now i c.as_slice.result.now c.index-homes-number.result c.as_slice-homes.ensures (home_there c.args.program.now homes c.requires i inside) c.index-homes-number.is c.as_slice.ensures in
    own_homes c.args.program.now homes c.requires i c.as_slice.result.now home

pub loop-number-preserved : goal.loop-number-preserved
loop-number-preserved c =
    let functions = c.args.program.now.functions in
    let homes = c.args.allocation.now.homes in
    let i = c.loop-number.number in
    let f : QuadFunction = c.index-functions-number.result in
    let within : i < length c.as_slice-functions.result.now = omega (arith, c.loop-number-test.true) in
    let inside : i < length functions = omega (arith, within, ap (λ (functions : List QuadFunction). length functions) c.as_slice-functions.ensures) in
    let here = function_is functions c.as_slice-functions.result.now i f c.as_slice-functions.ensures within c.index-functions-number.is in
    let home = homes_are homes c.as_slice-homes.result.now i c.as_slice.result.now c.index-homes-number.result c.as_slice-homes.ensures (home_there c.args.program.now homes c.requires i inside) c.index-homes-number.is c.as_slice.ensures in
    function_more c.args.program.now homes i f c.as_slice.result.now c.loop-number.masks.items c.push_function.new.masks.items here home c.in_ok-push_function.ensures c.loop-number.invariant

pub returns : goal.returns
returns c =
    masks_are c.args.program.now c.args.allocation.now.homes c.loop-number.number c.loop-number.masks.items
    (omega (arith, c.loop-number-test.false, ap (λ (functions : List QuadFunction). length functions) c.as_slice-functions.ensures)) c.loop-number.invariant

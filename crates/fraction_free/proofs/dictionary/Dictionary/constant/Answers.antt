use Rattle.std.proofs.Common.{◌≡◌, ◌-◌, length, ap, arith}
use Rattle.fraction_free.specs.Dictionary.{DictionaryView}
use Rattle.fraction_free.proofs.Kept.{read_len}
use Rattle.fraction_free.proofs.dictionary.Dictionary.constant.Goals as goal

pub get-requires : goal.get-requires
get-requires c =
    let inside = c.self.inside in
    let rows : length inside.loaded.items ≡ length c.args.self.now.loaded = ap (λ (t : DictionaryView). length t.loaded) c.self.view_is in
    omega (arith, c.from.ensures, read_len inside.columns inside.loaded.items inside.scale inside.places.order inside.lines.items (c.args.row - 1) c.index-line.result.now c.self.invariant.minors (omega arith) c.index-line.ensures)

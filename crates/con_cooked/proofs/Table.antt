-- A key by the table of codes is the key that the code reads step by step.
use Rattle.std.proofs.Common.{◌≡◌, ℕ, Bool, true, false, cond, not, ◌||◌, ◌==◌, Some, None, bit_and, refl, ap}
use Rattle.std.specs.Option.{option_map_or}
use Rattle.con_units.specs.Stored.{is_control}
use Rattle.con_records.specs.declared.record.Key.{Key}
use Rattle.con_records.specs.declared.record.Record.TheVariants as record_
use Rattle.con_cooked.specs.Keys.{key_of}
use Rattle.con_cooked.specs.Parts.{key_in}
use Rattle.con_cooked.specs.declared.keys.LineKey.{LineKey}
use Rattle.con_cooked.specs.declared.keys.LineKey.TheVariants as key

table_step : (a b c d e f g h i j k l m ctrl : Bool)
    → cond a key.Escape (cond b (cond ctrl key.WordLeft key.Left) (cond c key.Up (cond d (cond ctrl key.WordRight key.Right) (cond e key.Down (cond f key.PageUp (cond g key.PageDown (cond h key.End (cond i key.Home (cond j key.Insert (cond k key.Delete (cond l key.Rest (cond m key.Search key.Nothing))))))))))))
    ≡ option_map_or (λ (p : ℕ × LineKey). p.1)
    (cond a (Some (0x1B, key.Escape)) (cond b (Some (0x25, cond ctrl key.WordLeft key.Left)) (cond c (Some (0x26, key.Up)) (cond d (Some (0x27, cond ctrl key.WordRight key.Right)) (cond e (Some (0x28, key.Down)) (cond f (Some (0x21, key.PageUp)) (cond g (Some (0x22, key.PageDown)) (cond h (Some (0x23, key.End)) (cond i (Some (0x24, key.Home)) (cond j (Some (0x2D, key.Insert)) (cond k (Some (0x2E, key.Delete)) (cond l (Some (0x72, key.Rest)) (cond m (Some (0x77, key.Search)) None)))))))))))))
    key.Nothing
table_step true b c d e f g h i j k l m ctrl = refl
table_step false true c d e f g h i j k l m ctrl = refl
table_step false false true d e f g h i j k l m ctrl = refl
table_step false false false true e f g h i j k l m ctrl = refl
table_step false false false false true f g h i j k l m ctrl = refl
table_step false false false false false true g h i j k l m ctrl = refl
table_step false false false false false false true h i j k l m ctrl = refl
table_step false false false false false false false true i j k l m ctrl = refl
table_step false false false false false false false false true j k l m ctrl = refl
table_step false false false false false false false false false true k l m ctrl = refl
table_step false false false false false false false false false false true l m ctrl = refl
table_step false false false false false false false false false false false true m ctrl = refl
table_step false false false false false false false false false false false false true ctrl = refl
table_step false false false false false false false false false false false false false ctrl = refl

pub key_read : (k : Key) → key_in k ≡ key_of (record_.Key k)
key_read k =
    ap (λ (x : LineKey). cond (not k.down) key.Nothing (cond (not (is_control k.unit)) (key.Unit k.unit) (cond ((k.unit == 0x0D) || (k.vk == 0x0D)) key.Return (cond ((k.vk == 0x08) || (k.unit == 0x08)) key.Back x))))
    (table_step (k.vk == 0x1B) (k.vk == 0x25) (k.vk == 0x26) (k.vk == 0x27) (k.vk == 0x28) (k.vk == 0x21) (k.vk == 0x22) (k.vk == 0x23) (k.vk == 0x24) (k.vk == 0x2D) (k.vk == 0x2E) (k.vk == 0x72) (k.vk == 0x77) (not (bit_and k.state 8 == 0)))

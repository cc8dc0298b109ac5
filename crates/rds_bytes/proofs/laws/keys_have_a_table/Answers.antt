use Rattle.std.proofs.Common.{refl}
use Rattle.std.specs.Cmp.Lexicographic.{pointwise_decides}
use Rattle.std.proofs.lemmas.Slice.Eq.{bytes_eq-Decides}
use Rattle.rds_bytes.specs.Table.{table_of}
use Rattle.rds_bytes.specs.Values.{is_key_text}
use Rattle.rds_bytes.proofs.TableLaws.{table_all, table_differs, table_has}
use Rattle.rds_bytes.proofs.laws.keys_have_a_table.Goals as goal

pub returns : goal.returns
returns c = record {
  table = λ keys texts. record { texts = table_all is_key_text keys texts; differ = table_differs keys };
  has = table_has;
  tabled = λ keys. (pointwise_decides bytes_eq-Decides (table_of keys) (table_of keys)).1 refl;
}

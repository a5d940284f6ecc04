-- Each reader and its rule.
use Rattle.vf_item.specs.Reading.{ReadingsAreItems}
use Rattle.vf_item.proofs.Sound.{item_is, params_is, port_list_is}
use Rattle.vf_item.proofs.Complete.{item_again, params_again, port_list_again}

pub readings_are : ReadingsAreItems
readings_are = record {
  items = record { sound = λ ts x e. item_is ts x e; complete = λ ts rest a is ends. item_again ts rest a is ends };
  params = record { sound = λ ts x e. params_is ts x e; complete = λ ts rest a is ends. params_again ts rest a is ends };
  port_lists = record { sound = λ ts x e. port_list_is ts x e; complete = λ ts rest a is ends. port_list_again ts rest a is ends };
}

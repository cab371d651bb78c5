use Rattle.bin_files.proofs.Texts.{text_verdict, text_points, text_only, sound_text}
use Rattle.bin_files.proofs.laws.text_laws.Goals as goal

pub returns : goal.returns
returns c = record {
  text_is_sound = λ X are. (text_verdict X are, text_points X are);
  sound_is_text = sound_text;
  texts_differ = text_only;
}

use Rattle.text.proofs.put.TextBuffer.+put_leading.Given as goal

-- proposed from what the function passes where it calls itself
abbrev pub decreases-put_leading : goal.decreases-put_leading
decreases-put_leading l = l.number

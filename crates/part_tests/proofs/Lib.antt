mod LayerBatch
mod Later
mod PrunedLine
